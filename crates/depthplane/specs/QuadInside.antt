-- What four walks over depths that are sure and have no bias keep: the heights there, divided by the area, in 2^32nds.
use Rattle.std.specs.Prelude.{◌≡◌, ℕ, ◌<◌, ◌≤◌, ◌+◌, ◌*◌, ◌%◌, IsTrue, length, pos, slice_index}
use Rattle.gfxspec.specs.Limits.{side_bound}
use Rattle.depthplane.specs.declared.scaled.Scaled.{Scaled}
use Rattle.depthplane.specs.declared.quads.DepthQuads.TheInside.{Inside}
use Rattle.depthplane.specs.Places.{Places}
use Rattle.depthplane.specs.Scaled.{scaled_at}
use Rattle.depthplane.specs.ScaledInside.{IsScaledHeight}

abbrev pub place_of : Inside → Places
place_of w = record { plane = w.plane.now; left = w.left; top = w.top; x = w.x; y = w.y }

-- lane j has the value at pixel (x + j, y); the steps are what four pixels to the right and one row down add anywhere
pub record AreQuads (w : Inside) : Type 0 where
  pub scaled : Scaled
  pub heights : IsScaledHeight w.plane.now scaled
  pub four : length w.values.lanes ≡ 4
  pub lanes : (j : ℕ) → j < 4 → slice_index w.values.lanes j ≡ scaled_at scaled (w.x + j) w.y
  pub across : w.values.across ≡ scaled.right * 4 % 18446744073709551616
  pub down : w.values.down ≡ scaled.down
  pub sure : IsTrue scaled.sure
  pub still : w.plane.now.bias ≡ pos 0
  pub column : w.x ≤ 4099
  pub row : w.y ≤ side_bound
