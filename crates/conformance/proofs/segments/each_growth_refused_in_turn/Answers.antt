use Rattle.std.proofs.Crossing.{frees}
use Rattle.conformance.proofs.segments.each_growth_refused_in_turn.Goals as goal

pub insisting-requires-frees-A-Allocator : goal.insisting-requires-frees-A-Allocator
insisting-requires-frees-A-Allocator g c κs = record { frees = λ r τ p. frees.frees r.now.inner τ p }
