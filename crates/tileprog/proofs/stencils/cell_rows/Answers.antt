use Rattle.std.proofs.Common.{sym, subst, refl, arith, ◌+◌, ◌-◌, Option, Bool, Some, false}
use Rattle.std.specs.Prelude.{IfSome}
use Rattle.tileprog.specs.Cells.{AreCovered}
use Rattle.tileprog.specs.Columns.{stroke_in}
use Rattle.tileprog.proofs.Columning.{rows_are, rows_missed}
use Rattle.tileprog.proofs.Rowing.{row_uncovered}
use Rattle.tileprog.proofs.stencils.cell_rows.Goals as goal

pub returns-then-not-covered : goal.returns-then-not-covered
returns-then-not-covered g c =
    let k = c.args.column.now in
    let plane = k.plane.now in
    let s = stroke_in c.args.brush.now.brush k in
    let old = c.args.block.now in
    let row = c.args.cell.now.row in
    let y = old.rect.top + row in
    let P : Option Bool → Type 0 = λ o. IfSome o (λ all. AreCovered all k.mask plane.triangle old.rect k.x row (row + 8)) in
    let told : P (Some c.in-Some.covered) = subst P c.in-Some.is c.requires.told.covered in
    let none : AreCovered false k.mask plane.triangle old.rect k.x row (row + 8) = subst (λ all. AreCovered all k.mask plane.triangle old.rect k.x row (row + 8)) c.if-not-covered.true told in
    let top = c.requires.cell.long.top in
    let bottom = c.requires.cell.long.bottom in
    let few = c.requires.cell.last in
    rows_are s plane old old k.x y (y + 8) y (old.rect.top + (row + 8)) 0
    (rows_missed s old k.x y 8 c.requires.cell.column.within (omega (arith, top)) (λ v l m.
    row_uncovered s old k.span (v - old.rect.top) k.x v (sym c.requires.cell.column.x) (omega (arith, l)) c.requires.cell.column.named c.requires.cell.column.within (omega (arith, top, l)) (omega (arith, bottom, m, few))
    (λ j h. none (k.x + j) v (record { left = omega arith; right = omega (arith, h); top = l; bottom = omega (arith, m) }))))
    refl refl (omega arith)
