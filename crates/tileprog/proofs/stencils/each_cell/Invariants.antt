use Rattle.std.proofs.Common.{◌≡◌, ◌+◌, ◌*◌}
use Rattle.tileprog.specs.Columns.{Continues, stroke_in}
use Rattle.tileprog.proofs.stencils.each_cell.Given as goal

abbrev pub invariant-loop-k : goal.invariant-loop-k
invariant-loop-k g l =
    let c = l.column in
    let old = l.fn.block in
    record {
      rect : l.block.rect ≡ old.rect;
      continues : Continues (stroke_in l.brush.brush c) old l.block c.x old.rect.top (old.rect.top + 8 * l.k) l.passed;
    }
