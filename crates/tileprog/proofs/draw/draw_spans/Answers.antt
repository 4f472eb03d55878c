use Rattle.std.proofs.Common.{◌∙◌, ap, rules, arith, ◌+◌, ◌*◌, ◌≤◌, ◌-◌, ◌≡◌}
use Rattle.gfxspec.specs.Items.{sum_below}
use Rattle.gfxspec.specs.declared.geometry.PixelRect.{PixelRect}
use Rattle.tileprog.specs.Counting.{column_sum, stroke_count}
use Rattle.tileprog.specs.Spreads.{stroke_of}
use Rattle.tileprog.specs.Strokes.{Drew}
use Rattle.tileprog.specs.Within.{in_box}
use Rattle.tileprog.proofs.Columning.{column_is, column_more, column_adds}
use Rattle.tileprog.proofs.Stroking.{columns_from, all_columns}
use Rattle.tileprog.proofs.Summing.{none_counted, all_counted}
use Rattle.tileprog.proofs.draw.draw_spans.Goals as goal

pub loop-span-init : goal.loop-span-init
loop-span-init g c =
    let t = c.args.triangle.now in
    let s = stroke_of t in
    let old = c.args.block.now in
    let start = old.rect.left + 8 * t.first in
    record {
      edges = c.requires.edges;
      walk = c.requires.walk;
      drew = columns_from s old start t.clip.top t.clip.bottom;
      count = none_counted _ start (λ u. column_sum u t.clip.top (t.clip.bottom - t.clip.top) (stroke_count s old)) (omega arith);
      few = search rules;
    }

pub loop-span-preserved : goal.loop-span-preserved
loop-span-preserved g c =
    let t = c.args.triangle.now in
    let s = stroke_of t in
    let old = c.args.block.now in
    let mid = c.loop-span.block in
    let new = c.draw_column-more.new.block in
    let span = c.loop-span.span in
    let start = old.rect.left + 8 * t.first in
    let x = old.rect.left + 8 * span in
    let inv = c.loop-span.invariant in
    let made = c.column_of-column in
    let more = c.draw_column-more.result in
    let below : start ≤ x = search rules in
    let column = column_is s mid new made.result.plane.now made.result.mask made.result.clip made.result.x x more c.draw_column-more.ensures made.ensures.plane made.ensures.mask made.ensures.clip
    (made.ensures.x ∙ ap (λ (r : PixelRect). r.left + 8 * span) c.rect-rect.ensures) in
    record {
      edges = search rules;
      walk = search rules;
      drew = column_more s old mid new start x (old.rect.left + 8 * (span + 1)) c.loop-span.passed more c.requires.over.within below inv.drew column (omega arith);
      count = column_adds s old mid new start x c.loop-span.passed (span - t.first) (span + 1 - t.first) more c.requires.over.within inv.drew column inv.count (search rules) (search rules);
      few = let most = c.draw_column-more.ensures.few in let was = inv.few in omega arith;
    }

pub returns-then-span-triangle : goal.returns-then-span-triangle
returns-then-span-triangle g c =
    let t = c.args.triangle.now in
    let s = stroke_of t in
    let old = c.args.block.now in
    let mid = c.loop-span.block in
    let new = c.draw_column-more.new.block in
    let span = c.loop-span.span in
    let start = old.rect.left + 8 * t.first in
    let x = old.rect.left + 8 * span in
    let end = old.rect.left + 8 * (span + 1) in
    let inv = c.loop-span.invariant in
    let over = c.requires.over in
    let made = c.column_of-column in
    let more = c.draw_column-more.result in
    let below : start ≤ x = search rules in
    let past : t.clip.right ≤ end = let last = c.if-span-triangle.true in let ended = over.ended in omega (arith, last, ended) in
    let column = column_is s mid new made.result.plane.now made.result.mask made.result.clip made.result.x x more c.draw_column-more.ensures made.ensures.plane made.ensures.mask made.ensures.clip
    (made.ensures.x ∙ ap (λ (r : PixelRect). r.left + 8 * span) c.rect-rect.ensures) in
    let drew : Drew s old new (in_box start end t.clip.top t.clip.bottom) =
    column_more s old mid new start x end c.loop-span.passed more over.within below inv.drew column (omega arith) in
    let count : c.loop-span.passed + more ≡ sum_below (span + 1 - t.first) (λ k. column_sum (start + 8 * k) t.clip.top (t.clip.bottom - t.clip.top) (stroke_count s old)) =
    column_adds s old mid new start x c.loop-span.passed (span - t.first) (span + 1 - t.first) more over.within inv.drew column inv.count (search rules) (search rules) in
    record {
      drew = all_columns s old new start end over.begun past drew;
      count = all_counted s old (span + 1 - t.first) start (c.loop-span.passed + more) count over.begun (omega (arith, past, below)) over.within;
      few = let most = c.draw_column-more.ensures.few in let was = inv.few in let four = over.few in omega (arith, most, was, four);
    }

pub returns : goal.returns
returns g c =
    let t = c.args.triangle.now in
    let s = stroke_of t in
    let old = c.args.block.now in
    let start = old.rect.left + 8 * t.first in
    let inv = c.loop-span.invariant in
    let over = c.requires.over in
    record {
      drew = all_columns s old c.loop-span.block start (old.rect.left + 8 * c.loop-span.span) over.begun (search rules) inv.drew;
      count = all_counted s old (c.loop-span.span - t.first) start c.loop-span.passed inv.count over.begun (search rules) over.within;
      few = search rules;
    }
