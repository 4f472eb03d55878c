-- Colours of a row of a picture (this project's own).
use Rattle.std.specs.Prelude.{ℕ, ◌≡◌, ◌<◌, List, [], slice_index_or}
use Rattle.gfxspec.specs.declared.pixel.Pixel.{Pixel}
use Rattle.tga.specs.Image.{kept_color}

-- the first of a list of colours are those of row y of a picture, as its file keeps them
abbrev pub HoldsRow : List (List ℕ) → ℕ → (ℕ → ℕ → Pixel) → ℕ → Type 0
HoldsRow colors width pixels y = (x : ℕ) → x < width → slice_index_or colors x [] ≡ kept_color (pixels x y).rgba
