use Rattle.std.proofs.Common.{ℕ, ◌<◌, ◌≤◌, ◌+◌, ◌%◌, IsTrue, slice_index}
use Rattle.depthplane.proofs.walks_scaled.all_far.Given as goal

abbrev pub invariant-loop-j : goal.invariant-loop-j
invariant-loop-j l = record {
  far : IsTrue l.far → (k : ℕ) → k < l.j → (16384 ≤ slice_index l.lanes k % 4294967296) × (16384 ≤ slice_index l.lanes (k + 4) % 4294967296);
}
