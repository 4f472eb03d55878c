use Rattle.std.proofs.Common.{ℕ, ◌<◌, ◌≤◌, slice_index}
use Rattle.tileblock.proofs.extremes.Extremes.greatest_of_all.Given as goal

abbrev pub invariant-loop-j : goal.invariant-loop-j
invariant-loop-j l = record {
  all : (k : ℕ) → k < l.j → slice_index l.self.greatest k ≤ l.greatest;
}
