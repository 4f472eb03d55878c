use Rattle.std.proofs.Common.{◌≡◌, ◌+◌}
use Rattle.std.specs.Prelude.{IfSome}
use Rattle.tileprog.specs.Cells.{HaveOutcome}
use Rattle.tileprog.specs.Columns.{Continues, stroke_in}
use Rattle.tileprog.proofs.stencils.each_row.Given as goal

abbrev pub invariant-loop-at : goal.invariant-loop-at
invariant-loop-at g l =
    let k = l.fn.column in
    let old = l.fn.block in
    let start = g.W.Walks.place l.fn.walk in
    record {
      edges : l.edges ≡ record l.fn.edges { triangle = k.plane.now.triangle; x = k.x; y = old.rect.top + l.at };
      walk : g.W.Walks.place l.walk ≡ record start { plane = k.plane.now; x = k.x; y = old.rect.top + l.at };
      rect : l.block.rect ≡ old.rect;
      known : IfSome l.known (λ deep. HaveOutcome deep l.brush.brush k l.block l.at l.fn.rows.end);
      continues : Continues (stroke_in l.brush.brush k) old l.block k.x (old.rect.top + l.fn.rows.start) (old.rect.top + l.at) l.passed;
    }
