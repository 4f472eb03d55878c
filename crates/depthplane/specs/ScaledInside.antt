-- What eight walks without a bias keep: the heights there, divided by the area, in 2^32nds.
use Rattle.std.specs.Prelude.{◌≡◌, ℕ, ◌<◌, ◌≤◌, ◌+◌, ◌*◌, ◌%◌, length, slice_index}
use Rattle.gfxspec.specs.Limits.{side_bound}
use Rattle.gfxspec.specs.Raster.{centre}
use Rattle.depthplane.specs.declared.height.Linear.{Linear}
use Rattle.depthplane.specs.declared.scaled.Scaled.{Scaled}
use Rattle.depthplane.specs.declared.start.Start.{Start}
use Rattle.depthplane.specs.declared.walks_scaled.ScaledWalks.TheInside.{Inside}
use Rattle.depthplane.specs.Division.{IsDivisor}
use Rattle.depthplane.specs.Height.{DeepTriangle, without_bias, height, size_of, AreDepths}
use Rattle.depthplane.specs.Linear.{value_at}
use Rattle.depthplane.specs.Places.{Places}
use Rattle.depthplane.specs.Scaled.{IsScaledLinear, scaled_at}
use Rattle.depthplane.specs.Start.{IsStartOf}

abbrev pub place_of : Inside → Places
place_of w = record { plane = without_bias w.plane.now; left = w.left; top = w.top; x = w.x; y = w.y }

-- s is the height of a triangle, scaled from where it begins
pub record IsScaledHeight (d : DeepTriangle) (s : Scaled) : Type 0 where
  pub linear : Linear
  pub value : (x y : ℕ) → value_at linear x y ≡ height d (centre x y)
  pub divisor : IsDivisor (size_of d)
  pub start : Start
  pub begins : IsStartOf start d.triangle
  pub scaled : IsScaledLinear linear (size_of d) start s
  pub depths : AreDepths d

-- lane j has the value at pixel (x + j, y); the steps are what eight pixels to the right and one row down add anywhere
pub record AreWalks (w : Inside) : Type 0 where
  pub scaled : Scaled
  pub heights : IsScaledHeight w.plane.now scaled
  pub eight : length w.values.lanes ≡ 8
  pub lanes : (j : ℕ) → j < 8 → slice_index w.values.lanes j ≡ scaled_at scaled (w.x + j) w.y
  pub across : w.values.across ≡ scaled.right * 8 % 18446744073709551616
  pub down : w.values.down ≡ scaled.down
  pub sure : w.sure ≡ scaled.sure
  pub column : w.x ≤ 4103
  pub row : w.y ≤ side_bound
