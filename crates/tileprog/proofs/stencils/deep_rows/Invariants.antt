use Rattle.std.proofs.Common.{◌≡◌, ◌+◌}
use Rattle.tileprog.specs.Columns.{Continues, stroke_in}
use Rattle.tileprog.proofs.stencils.deep_rows.Given as goal

abbrev pub invariant-loop-at : goal.invariant-loop-at
invariant-loop-at g l =
    let k = l.column in
    let old = l.fn.block in
    let start = g.W.Walks.place l.walk in
    record {
      depths : g.W.Walks.place l.depths ≡ record start { plane = k.plane.now; x = k.x; y = old.rect.top + l.at };
      rect : l.block.rect ≡ old.rect;
      continues : Continues (stroke_in l.brush.brush k) old l.block k.x (old.rect.top + l.row) (old.rect.top + l.at) l.passed;
    }
