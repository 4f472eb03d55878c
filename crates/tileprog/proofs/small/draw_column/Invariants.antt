use Rattle.std.proofs.Common.{◌≡◌, ℕ, ◌+◌, ◌-◌, ◌*◌, ◌<◌, ◌≤◌, length, slice_index}
use Rattle.tileprog.specs.Counting.{stroke_count}
use Rattle.tileprog.specs.Quads.{edges_at, walk_at, sum4}
use Rattle.tileprog.specs.Spreads.{stroke_of}
use Rattle.tileprog.specs.Strokes.{Drew}
use Rattle.tileprog.specs.Sums.{box_sum}
use Rattle.tileprog.specs.Within.{in_box}
use Rattle.tileprog.proofs.small.draw_column.Given as goal

abbrev pub invariant-loop-row : goal.invariant-loop-row
invariant-loop-row l =
    let t = l.triangle in
    let old = l.fn.block in
    let x = old.rect.left + 4 * l.quad in
    record {
      edges : l.edges ≡ edges_at t old.rect l.quad (old.rect.top + l.row);
      walk : l.walk ≡ walk_at t old.rect l.quad (old.rect.top + l.row);
      drew : Drew (stroke_of t) old l.block (in_box x (x + 4) t.clip.top (old.rect.top + l.row));
      long : length l.counts ≡ 4;
      count : sum4 l.counts ≡ box_sum x 4 t.clip.top (old.rect.top + l.row - t.clip.top) (stroke_count (stroke_of t) old);
      few : (j : ℕ) → j < 4 → slice_index l.counts j ≤ l.row;
    }
