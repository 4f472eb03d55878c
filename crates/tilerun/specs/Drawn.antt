-- What a job leaves of a target, and what it counts (this project's own).
use Rattle.std.specs.Prelude.{ℕ, ◌≡◌, ◌<◌, List, length, slice_index}
use Rattle.std.specs.List.{Contains, sum_by}
use Rattle.gfxspec.specs.declared.pixel.Pixel.{Pixel}
use Rattle.gfxspec.specs.Tiles.{tile_of}
use Rattle.tileblock.specs.Surface.{Surface, IsWhole, pixel_of}

-- `new` is `old` after a job drew on those tiles: in each it holds what the job leaves there, and elsewhere what it held.
-- drawn t x y p is what the job leaves, in tile t, at x and y, of the pixel p.
pub record IsDrawn (drawn : ℕ → ℕ → ℕ → Pixel → Pixel) (tiles : List ℕ) (old new : Surface) : Type 0 where
  pub size : new.size ≡ old.size
  pub whole : IsWhole new
  pub here : (x y : ℕ) → x < old.size.width → y < old.size.height → Contains tiles (tile_of old.size x y)
      → pixel_of new x y ≡ drawn (tile_of old.size x y) x y (pixel_of old x y)
  pub elsewhere : (x y : ℕ) → x < old.size.width → y < old.size.height → ¬ Contains tiles (tile_of old.size x y)
      → pixel_of new x y ≡ pixel_of old x y

-- Each count is the sum over those tiles.
-- counted t i opening is what the job counts, in tile t, for the issue i, from what the pixels hold at first.
pub record AreCounts (counted : ℕ → ℕ → (ℕ → ℕ → Pixel) → ℕ) (issues : ℕ) (tiles : List ℕ) (opening : ℕ → ℕ → Pixel) (counts : List ℕ) : Type 0 where
  pub many : length counts ≡ issues
  pub each : (i : ℕ) → i < issues → slice_index counts i ≡ sum_by (λ t. counted t i opening) tiles
