use Rattle.std.proofs.Common.{◌≡◌, ◌+◌, ◌*◌}
use Rattle.tileprog.specs.Cells.{HaveOutcome}
use Rattle.tileprog.specs.Columns.{Continues, stroke_in}
use Rattle.tileprog.proofs.stencils.paired_rows.Given as goal

abbrev pub invariant-loop-pair : goal.invariant-loop-pair
invariant-loop-pair l =
    let c = l.column in
    let old = l.fn.block in
    let at = l.row + 2 * l.pair in
    record {
      rect : l.block.rect ≡ old.rect;
      deep : HaveOutcome l.deep l.brush.brush c l.block at (l.row + 8);
      continues : Continues (stroke_in l.brush.brush c) old l.block c.x (old.rect.top + l.row) (old.rect.top + at) l.passed;
    }
