-- The rectangle of a tile of a target.
use Rattle.std.proofs.Common.{◌≡◌, subst, sym, arith, ℕ, ◌+◌, ◌%◌, ◌<◌, ◌≤◌, IsTrue}
use Rattle.gfxspec.specs.declared.geometry.Size.{Size}
use Rattle.gfxspec.specs.declared.geometry.PixelRect.{PixelRect}
use Rattle.gfxspec.specs.Limits.{is_size}
use Rattle.gfxspec.specs.Tiles.{tile_count, tile_rect, IsInTile}
use Rattle.gfxspec.proofs.TileLaws.{in_one_tile}
use Rattle.classify.specs.Region.{IsReal}
use Rattle.binner.proofs.Tiles.{real_tile}
use Rattle.tileprog.specs.Passing.{IsTile}

below : (left right : ℕ) → left % 32 ≡ 0 → left < right → right ≤ 4096 → left + 32 ≤ 4096
below left right part some most = omega arith

real_is : (r : PixelRect) → IsInTile r → IsReal r → IsTile r
real_is r place real =
    record {
      place = place;
      wide = real.wide;
      high = real.high;
      right = below r.left r.right place.left real.wide real.right;
      bottom = below r.top r.bottom place.top real.high real.bottom;
    }

pub tile_is : (s : Size) (t : ℕ) (r : PixelRect) → IsTrue (is_size s) → t < tile_count s → r ≡ tile_rect s t → IsTile r
tile_is s t r size numbered is = subst IsTile (sym is) (real_is (tile_rect s t) (in_one_tile s t) (real_tile s t size numbered))
