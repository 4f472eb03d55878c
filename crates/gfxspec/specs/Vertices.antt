-- Vertices as the rasterizer takes them.
use Rattle.std.specs.Prelude.{ℕ, ◌≤◌}
use Rattle.gfxspec.specs.declared.geometry.Vertex.{Vertex}
use Rattle.gfxspec.specs.Snapping.{IsCoordinate}

-- a vertex whose position is in range
pub record IsPlaced (v : Vertex) : Type 0 where
  pub x : IsCoordinate v.x
  pub y : IsCoordinate v.y

-- a depth that a vertex or a clear may have
abbrev pub IsDepth : ℕ → Type 0
IsDepth z = z ≤ 16777215
