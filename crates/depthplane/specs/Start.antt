-- Where a triangle begins.
use Rattle.std.specs.Prelude.{ℕ, ◌+◌, ◌*◌, ◌≤◌, ℤ, pos, ◌≤ℤ◌}
use Rattle.gfxspec.specs.Raster.{Triangle, centre}
use Rattle.edges.specs.Extremes.{IsWithinExtremes}
use Rattle.depthplane.specs.declared.start.LineStart.{LineStart}
use Rattle.depthplane.specs.declared.start.Start.{Start}

-- each pixel along a line whose centre lies between two places is at most so many steps behind the first
pub record IsLineStart (s : LineStart) (least greatest : ℤ) : Type 0 where
  pub first : (x : ℕ) → least ≤ℤ pos (256 * x + 128) → s.first ≤ x
  pub steps : (x : ℕ) → pos (256 * x + 128) ≤ℤ greatest → x ≤ s.first + s.steps

-- each pixel whose centre lies between the corners is at most so many steps to the right of (left, top) and down
pub record IsStartOf (s : Start) (t : Triangle) : Type 0 where
  pub left : (x y : ℕ) → IsWithinExtremes t (centre x y) → s.left ≤ x
  pub top : (x y : ℕ) → IsWithinExtremes t (centre x y) → s.top ≤ y
  pub steps : (x y : ℕ) → IsWithinExtremes t (centre x y) → x + y ≤ s.left + s.top + s.steps
