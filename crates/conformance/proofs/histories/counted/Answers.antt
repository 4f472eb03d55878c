use Rattle.std.proofs.Crossing.{frees}
use Rattle.conformance.proofs.histories.counted.Goals as goal

pub history-requires-frees-A-Allocator : goal.history-requires-frees-A-Allocator
history-requires-frees-A-Allocator c κs = record { frees = λ r τ p. frees.frees r.now.inner τ p }
