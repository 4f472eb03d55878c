use Rattle.std.proofs.Common.{arith}
use Rattle.gfxspec.specs.Raster.{edge}
use Rattle.snap.specs.Corners.{triangle_of}
use Rattle.edges.proofs.quads.EdgeQuads.down.Goals as goal

pub invariant_of-self : goal.invariant_of-self
invariant_of-self c =
    let w = c.self.inside in
    let t = triangle_of w.triangle.now in
    let at = c.self.invariant in
    let reached = at.top in
    record {
      first = c.down-self-inside.ensures (edge t 0) w.left w.top w.x w.y at.first;
      second = c.down-self-inside-2.ensures (edge t 1) w.left w.top w.x w.y at.second;
      third = c.down-self-inside-3.ensures (edge t 2) w.left w.top w.x w.y at.third;
      real = at.real;
      left = at.left;
      top = omega (arith, reached);
    }
