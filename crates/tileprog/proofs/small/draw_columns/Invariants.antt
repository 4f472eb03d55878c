use Rattle.std.proofs.Common.{◌≡◌, ◌+◌, ◌-◌, ◌*◌, ◌≤◌}
use Rattle.tileprog.specs.Counting.{stroke_count}
use Rattle.tileprog.specs.Quads.{edges_at, walk_at}
use Rattle.tileprog.specs.Spreads.{stroke_of}
use Rattle.tileprog.specs.Strokes.{Drew}
use Rattle.tileprog.specs.Sums.{box_sum}
use Rattle.tileprog.specs.Within.{in_box}
use Rattle.tileprog.proofs.small.draw_columns.Given as goal

abbrev pub invariant-loop-quad : goal.invariant-loop-quad
invariant-loop-quad l =
    let t = l.triangle in
    let old = l.fn.block in
    let start = old.rect.left + 4 * t.first in
    record {
      edges : l.edges ≡ edges_at t old.rect l.quad t.clip.top;
      walk : l.walk ≡ walk_at t old.rect l.quad t.clip.top;
      drew : Drew (stroke_of t) old l.block (in_box start (old.rect.left + 4 * l.quad) t.clip.top t.clip.bottom);
      count : l.passed ≡ box_sum start (4 * (l.quad - t.first)) t.clip.top (t.clip.bottom - t.clip.top) (stroke_count (stroke_of t) old);
      few : l.passed ≤ 128 * l.quad;
    }
