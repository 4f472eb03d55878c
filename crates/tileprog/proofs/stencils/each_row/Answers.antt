use Rattle.std.proofs.Common.{◌≡◌, ◌∙◌, ap, refl, rules, arith, ◌+◌, ◌≤◌}
use Rattle.tileprog.specs.Columns.{stroke_in}
use Rattle.tileprog.proofs.CellLaws.{rest_told, untested_told}
use Rattle.tileprog.proofs.Columning.{none_yet, row_behind, rows_are}
use Rattle.tileprog.proofs.stencils.each_row.Goals as goal

pub loop-at-preserved : goal.loop-at-preserved
loop-at-preserved g c =
    let k = c.args.column.now in
    let s = stroke_in c.args.brush.now.brush k in
    let old = c.args.block.now in
    let mid = c.loop-at.block in
    let new = c.stencil_row-more.new.block in
    let at = c.loop-at.at in
    let plane = k.plane.now in
    let more = c.stencil_row-more.result in
    let inv = c.loop-at.invariant in
    let drawn = c.stencil_row-more.ensures in
    let order = inv.continues.order in
    let first = c.requires.first in
    let below : k.clip.top ≤ old.rect.top + at = omega (arith, order, first) in
    let pixels = c.pixels_left-pixels in
    record {
      edges = search rules;
      walk = search rules;
      rect = drawn.drew.rect ∙ inv.rect;
      known = rest_told c.untested-known.result s.brush k s mid new at c.args.rows.end (mid.rect.top + pixels.result.row) more inv.known drawn (ap (λ v. mid.rect.top + v) pixels.ensures.row);
      continues = row_behind s plane old mid new k.x (old.rect.top + c.args.rows.start) (old.rect.top + at) (old.rect.top + (at + 1)) (mid.rect.top + pixels.result.row) c.loop-at.passed more c.requires.column.within below inv.continues drawn
          refl (λ i. (inv.rect i).top + pixels.ensures.row i) (omega arith);
    }

pub returns : goal.returns
returns g c =
    let k = c.args.column.now in
    let s = stroke_in c.args.brush.now.brush k in
    let old = c.args.block.now in
    let at = c.loop-at.at in
    let done : at ≡ c.args.rows.end = search rules in
    rows_are s k.plane.now old c.loop-at.block k.x (old.rect.top + c.args.rows.start) (old.rect.top + at) (old.rect.top + c.args.rows.start) (old.rect.top + c.args.rows.end) c.loop-at.passed c.loop-at.invariant.continues refl refl (ap (λ v. old.rect.top + v) done)

pub loop-at-init : goal.loop-at-init
loop-at-init g c =
    let k = c.args.column.now in
    let old = c.args.block.now in
    record {
      edges = search rules;
      walk = search rules;
      rect = refl;
      known = untested_told c.untested-known.result c.args.brush.now.brush k old c.args.rows.start c.args.rows.end c.untested-known.ensures;
      continues = none_yet (stroke_in c.args.brush.now.brush k) old k.x (old.rect.top + c.args.rows.start);
    }
