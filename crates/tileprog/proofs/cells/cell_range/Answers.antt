use Rattle.std.proofs.Common.{arith}
use Rattle.tileprog.proofs.cells.cell_range.Goals as goal

pub returns : goal.returns
returns c = λ u v here covered.
    let e = c.cell_rect-cell.ensures in
    let a = here.left in
    let b = here.right in
    let d = here.top in
    let f = here.bottom in
    c.in-Some.ensures u v (record { left = omega (arith, a, e.left); right = omega (arith, b, e.right); top = omega (arith, d, e.top); bottom = omega (arith, f, e.bottom) }) covered
