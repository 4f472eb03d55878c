use Rattle.std.proofs.Common.{◌≡◌, ◌+◌, ◌<◌, ◌≤◌, ℕ, length, get_or}
use Rattle.std.specs.Prelude.{◌==◌, if◌then◌else◌}
use Rattle.std.specs.Int.{bit_at}
use Rattle.tileprog.proofs.words.add_counts.Given as goal

abbrev pub invariant-loop-k : goal.invariant-loop-k
invariant-loop-k l =
    record {
      long : length l.counts ≡ 64;
      done : (m : ℕ) → m < l.k → get_or l.counts m 0 ≡ get_or l.fn.counts m 0 + (if bit_at l.issues m == 1 then l.passed else 0);
      left : (m : ℕ) → l.k ≤ m → get_or l.counts m 0 ≡ get_or l.fn.counts m 0;
    }
