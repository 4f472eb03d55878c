-- The depth of a triangle at a point (Direct3D 11.3 Functional Specification, "Rasterizer Stage": depth is linear on the target, depth bias; rounding down and the unit of the bias are this project's own).
use Rattle.std.specs.Prelude.{ℕ, ◌+◌, ◌*◌, ◌/◌, ℤ, pos, negsuc, ◌+ℤ◌, min, unsigned_abs}
use Rattle.gfxspec.specs.Raster.{Point, Triangle, edge, side_of}

-- how much vertex i counts at p: twice the area of the triangle of p and the edge opposite to it
abbrev pub weight : Triangle → ℕ → Point → ℕ
weight t i p = unsigned_abs (side_of (edge t i) p)

-- the mean of the vertices' depths by those weights, rounded down
abbrev pub depth_at : Triangle → ℕ → ℕ → ℕ → Point → ℕ
depth_at t z0 z1 z2 p =
    (weight t 0 p * z0 + weight t 1 p * z1 + weight t 2 p * z2) / (weight t 0 p + weight t 1 p + weight t 2 p)

-- the depth nearest to a whole number
abbrev pub clamped_depth : ℤ → ℕ
clamped_depth (pos n) = min n 16777215
clamped_depth (negsuc n) = 0

-- a depth moved by a bias, within the range of depths
abbrev pub biased : ℤ → ℕ → ℕ
biased bias depth = clamped_depth (pos depth +ℤ bias)
