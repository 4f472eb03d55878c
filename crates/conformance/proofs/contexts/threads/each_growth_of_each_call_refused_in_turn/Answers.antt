use Rattle.std.proofs.Crossing.{frees}
use Rattle.conformance.proofs.contexts.threads.each_growth_of_each_call_refused_in_turn.Goals as goal

pub insisting-requires-frees-A-Allocator : goal.insisting-requires-frees-A-Allocator
insisting-requires-frees-A-Allocator g c κs = record { frees = λ r τ p. frees.frees r.now.inner τ p }
