use Rattle.std.proofs.Common.{◌≡◌, ◌∙◌, ap, sym, subst, refl, rules, arith, ℕ, ◌+◌, ◌^◌, ◌<◌, true}
use Rattle.std.specs.Prelude.{slice_index}
use Rattle.gfxspec.specs.declared.geometry.PixelRect.{PixelRect}
use Rattle.gfxspec.specs.declared.pixel.Pixel.{Pixel}
use Rattle.tileprog.specs.Cells.{AllHave, AreCovered}
use Rattle.tileprog.specs.Columns.{RowDrew, stroke_in}
use Rattle.tileprog.proofs.CellLaws.{first_have, rest_have, row_covered}
use Rattle.tileprog.proofs.Operating.{IsCoveredRow, row_operated}
use Rattle.tileprog.proofs.rows.operated_rows.Goals as goal

pub returns : goal.returns
returns c =
    let k = c.args.column.now in
    let b = c.args.brush.now.brush in
    let plane = k.plane.now in
    let s = stroke_in b k in
    let old = c.args.block.now in
    let new = c.operate_rows.new.block in
    let row = c.args.row in
    let y = old.rect.top + row in
    let rows = c.operate_rows.ensures in
    let mid = rows.mid in
    let deep = c.args.deep in
    let bits = c.all_lanes.result in
    let n = c.lanes_in.result in
    let one : row < row + 2 = omega arith in
    let past : row + 1 + 1 ≡ row + 2 = omega arith in
    let first_covered : AreCovered true k.mask plane.triangle old.rect k.x row (row + 1) = row_covered k.mask plane.triangle old.rect k.x row row (row + 2) (omega arith) one c.requires.covered in
    let next_covered : AreCovered true k.mask plane.triangle old.rect k.x (row + 1) (row + 1 + 1) = row_covered k.mask plane.triangle old.rect k.x row (row + 1) (row + 2) (omega arith) (omega arith) c.requires.covered in
    let drawn = row_operated b k c.args.brush.now.test deep c.requires.within c.args.brush.now.kind c.args.brush.now.rule c.requires.deep.unwritten c.requires.always c.requires.colors
    bits n c.all_lanes.ensures c.lanes_in.ensures.value c.lanes_in.ensures.few in
    let upper_fits : (j : ℕ) → slice_index c.color_span-upper.result j < 2 ^ 32 = search rules in
    let lower_fits : (j : ℕ) → slice_index c.color_span-lower.result j < 2 ^ 32 = search rules in
    let first : RowDrew s old mid k.x y n = drawn old mid row c.color_span-upper.result
    (record { column = c.requires.column; inside = c.requires.row; covered = first_covered })
    (first_have deep b.state plane old k.x row (row + 2) one c.requires.deep.all)
    (record { fit = upper_fits; are = c.color_span-upper.ensures })
    rows.first in
    let rect_is : mid.rect ≡ old.rect = rows.first.rect in
    let next : IsCoveredRow k mid.rect (row + 1) = subst (λ (r : PixelRect). IsCoveredRow k r (row + 1)) (sym rect_is)
    (record { column = c.requires.column; inside = c.requires.next; covered = next_covered }) in
    let have : AllHave deep b.state plane mid k.x (row + 1) (row + 1 + 1) = subst (λ z. AllHave deep b.state plane mid k.x (row + 1) z) (sym past)
    (rest_have deep b.state plane s old mid k.x row (row + 2) y n c.requires.deep.all first refl) in
    let second : RowDrew s mid new k.x (mid.rect.top + (row + 1)) n = drawn mid new (row + 1) c.color_span-lower.result next have
    (record { fit = lower_fits; are = λ j h. c.color_span-lower.ensures j h ∙ ap (λ (p : Pixel). p.rgba) (sym (rows.waits j h)) })
    rows.second in
    let top_is = ap (λ (r : PixelRect). r.top) rect_is in
    let y_is : mid.rect.top + (row + 1) ≡ y + 1 = omega (arith, top_is) in
    record {
      mid = mid;
      first = first;
      second = subst (λ v. RowDrew s mid new k.x v n) y_is second;
    }
