use Rattle.std.proofs.Crossing.{frees}
use Rattle.conformance.proofs.contexts.growths.pixels_take_no_memory.Goals as goal

pub work_with-requires-frees-A-Allocator : goal.work_with-requires-frees-A-Allocator
work_with-requires-frees-A-Allocator g c κs = record { frees = λ r τ p. frees.frees r.now.inner τ p }

pub work_with-requires-2-frees-A-Allocator : goal.work_with-requires-2-frees-A-Allocator
work_with-requires-2-frees-A-Allocator g c κs = record { frees = λ r τ p. frees.frees r.now.inner τ p }
