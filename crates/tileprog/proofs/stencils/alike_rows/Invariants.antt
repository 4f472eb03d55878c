use Rattle.std.proofs.Common.{◌≡◌, ◌+◌}
use Rattle.tileprog.specs.Cells.{HaveOutcome}
use Rattle.tileprog.specs.Columns.{Continues, stroke_in}
use Rattle.tileprog.proofs.stencils.alike_rows.Given as goal

abbrev pub invariant-loop-at : goal.invariant-loop-at
invariant-loop-at l =
    let k = l.column in
    let old = l.fn.block in
    record {
      rect : l.block.rect ≡ old.rect;
      deep : HaveOutcome l.known.deep l.brush.brush k l.block l.at (l.row + 8);
      continues : Continues (stroke_in l.brush.brush k) old l.block k.x (old.rect.top + l.row) (old.rect.top + l.at) l.passed;
    }
