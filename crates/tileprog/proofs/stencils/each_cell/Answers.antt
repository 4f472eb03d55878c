use Rattle.std.proofs.Common.{◌≡◌, ◌∙◌, ap, sym, subst, refl, rules, arith, ◌+◌, ◌*◌}
use Rattle.gfxspec.specs.declared.geometry.PixelRect.{PixelRect}
use Rattle.tileblock.specs.Block.{Block}
use Rattle.tileprog.specs.Columns.{Continues}
use Rattle.tileprog.specs.Columns.{stroke_in}
use Rattle.tileprog.proofs.Columning.{none_yet, rows_behind, column_behind}
use Rattle.tileprog.proofs.stencils.each_cell.Goals as goal

pub loop-k-init : goal.loop-k-init
loop-k-init g c =
    let k = c.args.column.now in
    let plane = k.plane.now in
    let s = stroke_in c.args.brush.now.brush k in
    let old = c.args.block.now in
    let here : old.rect.top ≡ old.rect.top + 8 * 0 = omega arith in
    record {
      rect = refl;
      continues = subst (λ z. Continues s old old k.x old.rect.top z 0) here (none_yet s old k.x old.rect.top);
    }

pub loop-k-preserved : goal.loop-k-preserved
loop-k-preserved g c =
    let k = c.args.column.now in
    let plane = k.plane.now in
    let s = stroke_in c.args.brush.now.brush k in
    let old = c.args.block.now in
    let mid = c.loop-k.block in
    let new = c.cell_rows-more.new.block in
    let row = 8 * c.loop-k.k in
    let more = c.cell_rows-more.result in
    let inv = c.loop-k.invariant in
    let top_is = ap (λ (r : PixelRect). r.top) inv.rect in
    let D : Block → Type 0 = λ b. Continues s b new k.x (b.rect.top + row) (b.rect.top + (row + 8)) more in
    let drawn : D mid = subst D c.look_at.ensures c.cell_rows-more.ensures in
    record {
      rect = drawn.rect ∙ inv.rect;
      continues = rows_behind s old mid new k.x old.rect.top (old.rect.top + row) (mid.rect.top + row) (mid.rect.top + (row + 8)) (old.rect.top + 8 * (c.loop-k.k + 1)) c.loop-k.passed more inv.continues drawn
          (ap (λ v. v + row) top_is) (omega (arith, top_is));
    }

pub returns : goal.returns
returns g c =
    let k = c.args.column.now in
    let s = stroke_in c.args.brush.now.brush k in
    let old = c.args.block.now in
    let n = c.loop-k.k in
    let done : n ≡ 4 = search rules in
    let top = c.requires.long.top in
    let bottom = c.requires.long.bottom in
    column_behind s old c.loop-k.block k.x old.rect.top (old.rect.top + 8 * n) c.loop-k.passed c.loop-k.invariant.continues (sym top) (omega (arith, done, bottom)) (omega (arith, top, bottom))
