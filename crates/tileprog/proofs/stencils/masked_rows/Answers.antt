use Rattle.std.proofs.Common.{◌≡◌, ◌∙◌, ap, refl, rules, arith, ◌+◌, ◌≤◌}
use Rattle.tileprog.specs.Columns.{stroke_in}
use Rattle.tileprog.proofs.CellLaws.{rest_outcome}
use Rattle.tileprog.proofs.Columning.{row_behind, rows_are}
use Rattle.tileprog.proofs.stencils.masked_rows.Goals as goal

pub loop-at-preserved : goal.loop-at-preserved
loop-at-preserved c =
    let k = c.args.column.now in
    let plane = k.plane.now in
    let s = stroke_in c.args.brush.now.brush k in
    let old = c.args.block.now in
    let mid = c.loop-at.block in
    let new = c.cut_row-more.new.block in
    let at = c.loop-at.at in
    let more = c.cut_row-more.result in
    let inv = c.loop-at.invariant in
    let drawn = c.cut_row-more.ensures in
    let top = c.requires.cell.long.top in
    let below : k.clip.top ≤ old.rect.top + at = omega (arith, top) in
    record {
      here = search rules;
      rect = drawn.drew.rect ∙ inv.rect;
      deep = rest_outcome c.args.known.deep s.brush k s mid new at (c.args.row + 8) (mid.rect.top + c.pixels_left-pixels.result.row) more inv.deep drawn (ap (λ v. mid.rect.top + v) c.pixels_left-pixels.ensures.row);
      continues = row_behind s plane old mid new k.x (old.rect.top + c.args.row) (old.rect.top + at) (old.rect.top + (at + 1)) (mid.rect.top + c.pixels_left-pixels.result.row) c.loop-at.passed more c.requires.cell.column.within below inv.continues drawn
          refl (λ i. (inv.rect i).top + c.pixels_left-pixels.ensures.row i) (omega arith);
    }

pub returns : goal.returns
returns c =
    let k = c.args.column.now in
    let plane = k.plane.now in
    let s = stroke_in c.args.brush.now.brush k in
    let old = c.args.block.now in
    let at = c.loop-at.at in
    let done : at ≡ c.args.row + 8 = search rules in
    rows_are s plane old c.loop-at.block k.x (old.rect.top + c.args.row) (old.rect.top + at) (old.rect.top + c.args.row) (old.rect.top + (c.args.row + 8)) c.loop-at.passed c.loop-at.invariant.continues refl refl (ap (λ v. old.rect.top + v) done)
