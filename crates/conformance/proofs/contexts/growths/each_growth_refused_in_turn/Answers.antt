use Rattle.std.proofs.Crossing.{frees}
use Rattle.conformance.proofs.contexts.growths.each_growth_refused_in_turn.Goals as goal

pub scene-requires-frees-A-Allocator : goal.scene-requires-frees-A-Allocator
scene-requires-frees-A-Allocator g c κs = record { frees = λ r τ p. frees.frees r.now.inner τ p }
