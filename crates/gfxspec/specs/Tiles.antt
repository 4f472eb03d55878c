-- How a target is cut into tiles of 32 by 32 pixels, numbered by rows from the upper left (this project's own).
use Rattle.std.specs.Prelude.{ℕ, ◌≡◌, ◌+◌, ◌*◌, ◌/◌, ◌%◌, ◌<◌, ◌≤◌, min}
use Rattle.gfxspec.specs.declared.TheConstants.{TILE_SIDE}
use Rattle.gfxspec.specs.declared.geometry.PixelRect.{PixelRect}
use Rattle.gfxspec.specs.declared.geometry.Size.{Size}

-- how many tiles stand side by side along so many pixels
abbrev pub tiles_along : ℕ → ℕ
tiles_along side = (side + 31) / TILE_SIDE

abbrev pub tile_count : Size → ℕ
tile_count s = tiles_along s.width * tiles_along s.height

-- the number of the tile that has a pixel
abbrev pub tile_of : Size → ℕ → ℕ → ℕ
tile_of s x y = y / TILE_SIDE * tiles_along s.width + x / TILE_SIDE

-- the part of a tile that lies on the target
abbrev pub tile_rect : Size → ℕ → PixelRect
tile_rect s t =
    let left = TILE_SIDE * (t % tiles_along s.width) in
    let top = TILE_SIDE * (t / tiles_along s.width) in
    record { left = left; top = top; right = min (left + TILE_SIDE) s.width; bottom = min (top + TILE_SIDE) s.height }

-- a pixel of a rectangle
pub record IsIn (r : PixelRect) (x y : ℕ) : Type 0 where
  pub left : r.left ≤ x
  pub right : x < r.right
  pub top : r.top ≤ y
  pub bottom : y < r.bottom

-- a rectangle that begins where a tile does, and doesn't leave it
pub record IsInTile (r : PixelRect) : Type 0 where
  pub left : r.left % 32 ≡ 0
  pub top : r.top % 32 ≡ 0
  pub right : r.right ≤ r.left + 32
  pub bottom : r.bottom ≤ r.top + 32

-- The tiles of a target have each of its pixels once, and no other.
pub record EachPixelOnce (s : Size) : Type 0 where
  -- a pixel lies in its tile's rectangle,
  pub numbered : (x y : ℕ) → x < s.width → y < s.height → tile_of s x y < tile_count s
  pub there : (x y : ℕ) → x < s.width → y < s.height → IsIn (tile_rect s (tile_of s x y)) x y
  -- in no other's,
  pub once : (t x y : ℕ) → t < tile_count s → IsIn (tile_rect s t) x y → t ≡ tile_of s x y
  -- and no rectangle leaves the target.
  pub within : (t x y : ℕ) → IsIn (tile_rect s t) x y → (x < s.width) × (y < s.height)
