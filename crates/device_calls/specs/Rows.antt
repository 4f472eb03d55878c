-- Rows of pixels in the caller's memory (Microsoft Learn, DXGI_FORMAT: R8G8B8A8 and B8G8R8A8, the first letter's byte first).
use Rattle.std.specs.Prelude.{ℕ, ◌+◌, ◌&&◌, ◌∷◌, nat_lt, nat_le, not, Bool, List, slice_index, if◌then◌else◌}
use Rattle.gfxspec.specs.declared.error.GfxError.TheVariants.{PixelRange}
use Rattle.gfxspec.specs.declared.geometry.Size.{Size}
use Rattle.gfxspec.specs.declared.pixel.Pixel.{Pixel}
use Rattle.gfxspec.specs.Refusals.{Row, flush_rows}
use Rattle.device_calls.specs.declared.rows.Cell.{Cell}

-- reading `count` pixels of row y from `left` on
abbrev pub row_rows : Size → List ℕ → ℕ → ℕ → ℕ → List Row
row_rows size opened y left count = (PixelRange, not (nat_lt y size.height && nat_le (left + count) size.width)) ∷ flush_rows opened

-- four bytes by their places in a colour
abbrev pub cell_by : List ℕ → ℕ → ℕ → ℕ → ℕ → Cell
cell_by rgba a b c d =
    record { first = slice_index rgba a; second = slice_index rgba b; third = slice_index rgba c; fourth = slice_index rgba d }

-- red, green, blue, alpha, or blue, green, red, alpha
abbrev pub cell_of : Bool → List ℕ → Cell
cell_of bgra rgba = if bgra then cell_by rgba 2 1 0 3 else cell_by rgba 0 1 2 3

abbrev pub color_cell : Bool → Pixel → Cell
color_cell bgra p = cell_of bgra p.rgba

abbrev pub no_cell : Cell
no_cell = record { first = 0; second = 0; third = 0; fourth = 0 }
