-- Where eight walks are.
use Rattle.std.specs.Prelude.{ℕ, ◌+◌, ◌<◌}
use Rattle.depthplane.specs.Height.{DeepTriangle}

-- They began at (left, top), and the first of them is at (x, y).
pub record Places : Type 0 where
  pub plane : DeepTriangle
  pub left : ℕ
  pub top : ℕ
  pub x : ℕ
  pub y : ℕ

-- lane j is within 32 columns and rows of the beginning
pub record IsNearStart (p : Places) (j : ℕ) : Type 0 where
  pub column : p.x + j < p.left + 32
  pub row : p.y < p.top + 32
