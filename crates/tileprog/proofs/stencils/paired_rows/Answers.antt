use Rattle.std.proofs.Common.{◌≡◌, ◌∙◌, ap, subst, refl, rules, arith, ◌+◌, ◌*◌, ◌≤◌}
use Rattle.gfxspec.specs.declared.geometry.PixelRect.{PixelRect}
use Rattle.tileprog.specs.Cells.{HaveOutcome}
use Rattle.tileprog.specs.Columns.{Continues}
use Rattle.tileprog.specs.Columns.{stroke_in}
use Rattle.tileprog.proofs.CellLaws.{part_have, part_covered, rest_outcome}
use Rattle.tileprog.proofs.Columning.{none_yet, rows_are, rows_drawn_behind}
use Rattle.tileprog.proofs.stencils.paired_rows.Goals as goal

pub loop-pair-init : goal.loop-pair-init
loop-pair-init c =
    let k = c.args.column.now in
    let plane = k.plane.now in
    let s = stroke_in c.args.brush.now.brush k in
    let old = c.args.block.now in
    let row = c.args.row in
    let here : row ≡ row + 2 * 0 = omega arith in
    record {
      rect = refl;
      deep = subst (λ at. HaveOutcome c.args.deep s.brush k old at (row + 8)) here c.requires.deep;
      continues = subst (λ at. Continues s old old k.x (old.rect.top + row) (old.rect.top + at) 0) here (none_yet s old k.x (old.rect.top + row));
    }

pub loop-pair-preserved : goal.loop-pair-preserved
loop-pair-preserved c =
    let k = c.args.column.now in
    let plane = k.plane.now in
    let s = stroke_in c.args.brush.now.brush k in
    let old = c.args.block.now in
    let mid = c.loop-pair.block in
    let new = c.operated_rows-more.new.block in
    let row = c.args.row in
    let at = row + 2 * c.loop-pair.pair in
    let next = row + 2 * (c.loop-pair.pair + 1) in
    let more = c.operated_rows-more.result in
    let inv = c.loop-pair.invariant in
    let drawn = c.operated_rows-more.ensures in
    let top = c.requires.cell.long.top in
    let below : k.clip.top ≤ old.rect.top + at = omega (arith, top) in
    let top_is = ap (λ (r : PixelRect). r.top) inv.rect in
    let half_top = ap (λ (r : PixelRect). r.top) drawn.first.drew.rect in
    let half = rest_outcome c.args.deep s.brush k s mid drawn.mid at (row + 8) (mid.rect.top + at) more inv.deep drawn.first refl in
    let whole = rest_outcome c.args.deep s.brush k s drawn.mid new (at + 1) (row + 8) (mid.rect.top + at + 1) more half drawn.second (omega (arith, half_top)) in
    let next_is : at + 1 + 1 ≡ next = omega arith in
    record {
      rect = drawn.second.drew.rect ∙ drawn.first.drew.rect ∙ inv.rect;
      deep = subst (λ z. HaveOutcome c.args.deep s.brush k new z (row + 8)) next_is whole;
      continues = rows_drawn_behind s old mid new k.x (old.rect.top + row) (old.rect.top + at) (old.rect.top + next) (mid.rect.top + at) c.loop-pair.passed more c.requires.cell.column.within below inv.continues drawn
          (ap (λ v. v + at) top_is) (omega arith);
    }

pub returns : goal.returns
returns c =
    let k = c.args.column.now in
    let plane = k.plane.now in
    let s = stroke_in c.args.brush.now.brush k in
    let old = c.args.block.now in
    let at = c.args.row + 2 * c.loop-pair.pair in
    let n = c.loop-pair.pair in
    let done : n ≡ 4 = search rules in
    rows_are s plane old c.loop-pair.block k.x (old.rect.top + c.args.row) (old.rect.top + at) (old.rect.top + c.args.row) (old.rect.top + (c.args.row + 8)) c.loop-pair.passed c.loop-pair.invariant.continues refl refl (omega (arith, done))

pub operated_rows-more-requires-clause-deep : goal.operated_rows-more-requires-clause-deep
operated_rows-more-requires-clause-deep c =
    let at = c.args.row + 2 * c.loop-pair.pair in
    let deep = c.loop-pair.invariant.deep in
    record {
      all = part_have c.args.deep c.args.brush.now.brush.state c.args.column.now.plane.now c.loop-pair.block c.args.column.now.x at at (at + 2) (c.args.row + 8) (omega arith) (omega arith) deep.all;
      unwritten = deep.unwritten;
    }

pub operated_rows-more-requires-clause-covered : goal.operated_rows-more-requires-clause-covered
operated_rows-more-requires-clause-covered c =
    let at = c.args.row + 2 * c.loop-pair.pair in
    let k = c.args.column.now in
    part_covered k.mask c.args.column.now.plane.now.triangle c.args.block.now.rect c.loop-pair.block.rect k.x c.args.row at (at + 2) (c.args.row + 8) (omega arith) (omega arith) c.loop-pair.invariant.rect c.requires.covered
