use Rattle.std.proofs.Crossing.{frees}
use Rattle.conformance.proofs.contexts.growths.triangles_have_room_at_once.Goals as goal

pub executed_strip-requires-frees-A-Allocator : goal.executed_strip-requires-frees-A-Allocator
executed_strip-requires-frees-A-Allocator g c κs = record { frees = λ r τ p. frees.frees r.now.inner τ p }

pub executed_strip-requires-2-frees-A-Allocator : goal.executed_strip-requires-2-frees-A-Allocator
executed_strip-requires-2-frees-A-Allocator g c κs = record { frees = λ r τ p. frees.frees r.now.inner τ p }
