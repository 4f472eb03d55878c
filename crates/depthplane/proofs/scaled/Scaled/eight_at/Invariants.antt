use Rattle.std.proofs.Common.{◌≡◌, ℕ, ◌<◌, ◌+◌, length, slice_index}
use Rattle.depthplane.specs.Scaled.{scaled_at}
use Rattle.depthplane.proofs.scaled.Scaled.eight_at.Given as goal

abbrev pub invariant-loop-j : goal.invariant-loop-j
invariant-loop-j l = record {
  long : length l.values ≡ 8;
  next : l.value ≡ scaled_at l.self (l.x + l.j) l.y;
  stored : (k : ℕ) → k < l.j → slice_index l.values k ≡ scaled_at l.self (l.x + k) l.y;
}
