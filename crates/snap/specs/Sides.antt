-- The sides of a triangle's edges, as linear functions of the pixel.
use Rattle.std.specs.Prelude.{◌≡◌, ℕ, ◌≤◌, ℤ, pos, ◌+ℤ◌, ◌-ℤ◌, ◌*ℤ◌, neg_ℤ, unsigned_abs}
use Rattle.gfxspec.specs.Raster.{Point, side, centre}
use Rattle.snap.specs.Bounds.{area_bound, step_bound}
use Rattle.snap.specs.Wide.{turned}
use Rattle.snap.specs.declared.sides.Side.{Side}

-- at the centre of pixel (x, y)
abbrev pub side_at : Side → ℕ → ℕ → ℤ
side_at s x y = s.origin +ℤ pos x *ℤ s.step_x +ℤ pos y *ℤ s.step_y

-- s is small enough for 64 bits over 4,096 pixels each way
pub record IsSmallSide (s : Side) : Type 0 where
  pub origin : unsigned_abs s.origin ≤ area_bound
  pub step_x : unsigned_abs s.step_x ≤ step_bound
  pub step_y : unsigned_abs s.step_y ≤ step_bound

-- s is the side at the edge from start to end, turned by the sign of the area
pub record IsSideOf (s : Side) (area : ℤ) (start end : Point) : Type 0 where
  pub value : (x y : ℕ) → side_at s x y ≡ turned area (side start end (centre x y))
  pub step_x : s.step_x ≡ pos 256 *ℤ neg_ℤ (turned area (end.y -ℤ start.y))
  pub step_y : s.step_y ≡ pos 256 *ℤ turned area (end.x -ℤ start.x)
  pub small : IsSmallSide s
