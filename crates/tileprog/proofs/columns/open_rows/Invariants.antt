use Rattle.std.proofs.Common.{◌≡◌, ◌+◌, ◌*◌, ◌≤◌}
use Rattle.tileprog.specs.Columns.{SoFar, stroke_in}
use Rattle.tileprog.proofs.columns.open_rows.Given as goal

abbrev pub invariant-loop-row : goal.invariant-loop-row
invariant-loop-row l =
    let k = l.fn.column in
    record {
      edges : l.edges ≡ record l.fn.edges { triangle = k.plane.now.triangle; x = k.x; y = l.fn.block.rect.top + l.row };
      so_far : SoFar (stroke_in l.brush k) l.fn.block l.block k.x (l.fn.block.rect.top + l.row) l.passed;
      few : l.passed ≤ 8 * l.row;
    }
