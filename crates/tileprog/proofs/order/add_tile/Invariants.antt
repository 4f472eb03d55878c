use Rattle.std.proofs.Common.{◌≡◌, ◌+◌, ◌<◌, ◌≤◌, ℕ, length, get_or}
use Rattle.tileprog.proofs.order.add_tile.Given as goal

abbrev pub invariant-loop-issue : goal.invariant-loop-issue
invariant-loop-issue g l =
    record {
      long : length l.totals ≡ 64;
      done : (m : ℕ) → m < l.issue → get_or l.totals m 0 ≡ get_or l.fn.totals m 0 + get_or l.tile.counts m 0;
      left : (m : ℕ) → l.issue ≤ m → get_or l.totals m 0 ≡ get_or l.fn.totals m 0;
    }
