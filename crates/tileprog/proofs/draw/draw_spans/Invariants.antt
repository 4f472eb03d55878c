use Rattle.std.proofs.Common.{◌≡◌, ◌+◌, ◌-◌, ◌*◌, ◌≤◌}
use Rattle.tileprog.specs.Spreads.{stroke_of}
use Rattle.tileprog.specs.Strokes.{Drew}
use Rattle.gfxspec.specs.Items.{sum_below}
use Rattle.tileprog.specs.Within.{in_box}
use Rattle.tileprog.specs.Counting.{column_sum, stroke_count}
use Rattle.tileprog.proofs.draw.draw_spans.Given as goal

abbrev pub invariant-loop-span : goal.invariant-loop-span
invariant-loop-span g l =
    let old = l.fn.block in
    let t = l.triangle in
    let start = old.rect.left + 8 * t.first in
    let s = stroke_of t in
    record {
      edges : l.edges ≡ record { triangle = t.plane.now.triangle; left = start; top = t.clip.top; x = old.rect.left + 8 * l.span; y = t.clip.top };
      walk : g.W.Walks.place l.walk ≡ record { plane = t.plane.now; left = start; top = t.clip.top; x = old.rect.left + 8 * l.span; y = t.clip.top };
      drew : Drew s old l.block (in_box start (old.rect.left + 8 * l.span) t.clip.top t.clip.bottom);
      count : l.passed ≡ sum_below (l.span - t.first) (λ k. column_sum (start + 8 * k) t.clip.top (t.clip.bottom - t.clip.top) (stroke_count s old));
      few : l.passed ≤ 256 * l.span;
    }
