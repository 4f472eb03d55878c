-- What a walk over columns of four keeps: the signs of each edge's values at its four pixels, which it reached by steps to the right and down.
use Rattle.std.specs.Prelude.{◌≢◌, ◌≤◌, pos}
use Rattle.gfxspec.specs.Raster.{area, edge}
use Rattle.snap.specs.Corners.{triangle_of}
use Rattle.edges.specs.Signs.{AreQuadSigns}
use Rattle.edges.specs.Walk.{EdgePlace}
use Rattle.edges.specs.declared.quads.EdgeQuads.TheInside.{Inside}

abbrev pub place_of : Inside → EdgePlace
place_of w = record { triangle = triangle_of w.triangle.now; left = w.left; top = w.top; x = w.x; y = w.y }

pub record IsAt (w : Inside) : Type 0 where
  pub first : AreQuadSigns w.first (edge (triangle_of w.triangle.now) 0) w.left w.top w.x w.y
  pub second : AreQuadSigns w.second (edge (triangle_of w.triangle.now) 1) w.left w.top w.x w.y
  pub third : AreQuadSigns w.third (edge (triangle_of w.triangle.now) 2) w.left w.top w.x w.y
  pub real : area (triangle_of w.triangle.now) ≢ pos 0
  pub left : w.left ≤ w.x
  pub top : w.top ≤ w.y
