use Rattle.std.proofs.Common.{ℕ, ◌<◌, ◌≤◌, slice_index}
use Rattle.tileblock.proofs.extremes.Extremes.least_of_all.Given as goal

abbrev pub invariant-loop-j : goal.invariant-loop-j
invariant-loop-j l = record {
  all : (k : ℕ) → k < l.j → l.least ≤ slice_index l.self.least k;
}
