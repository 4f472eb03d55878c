-- A picture as the bytes of an image file (Truevision TGA File Format Specification, Version 2.0: "TGA File Header", image type 2, uncompressed true colour; "Image Specification"; "Image/Color Map Data").
use Rattle.std.specs.Prelude.{ℕ, List, [], ◌∷◌, ◌++◌, slice_index}
use Rattle.std.specs.List.{flat_map, range_with_len}
use Rattle.std.specs.Int.{w16, to_le_bytes}
use Rattle.gfxspec.specs.declared.geometry.Size.{Size}
use Rattle.gfxspec.specs.declared.pixel.Pixel.{Pixel}

-- no identification, no colour map, type 2, colour map and origin zero; the sides; 32 bits a pixel; 8 of them alpha, the top row first
abbrev pub header_bytes : Size → List ℕ
header_bytes size =
    (0 ∷ 0 ∷ 2 ∷ 0 ∷ 0 ∷ 0 ∷ 0 ∷ 0 ∷ 0 ∷ 0 ∷ 0 ∷ 0 ∷ []) ++ to_le_bytes w16 size.width ++ to_le_bytes w16 size.height ++ (32 ∷ 0x28 ∷ [])

-- a colour of red, green, blue, alpha is kept as blue, green, red, alpha
abbrev pub kept_color : List ℕ → List ℕ
kept_color rgba = slice_index rgba 2 ∷ slice_index rgba 1 ∷ slice_index rgba 0 ∷ slice_index rgba 3 ∷ []

-- a row, its pixels from the left
abbrev pub row_bytes : ℕ → (ℕ → ℕ → Pixel) → ℕ → List ℕ
row_bytes width pixels y = flat_map (λ x. kept_color (pixels x y).rgba) (range_with_len 0 width)

-- the rows from the top
abbrev pub rows_bytes : ℕ → ℕ → (ℕ → ℕ → Pixel) → List ℕ
rows_bytes width height pixels = flat_map (row_bytes width pixels) (range_with_len 0 height)

-- the file of a picture: what it holds at pixel x, y is pixels x y
abbrev pub image_bytes : Size → (ℕ → ℕ → Pixel) → List ℕ
image_bytes size pixels = header_bytes size ++ rows_bytes size.width size.height pixels
