use Rattle.std.proofs.Crossing.{frees}
use Rattle.conformance_parts.proofs.setting_up.threads_make_the_words_of_one_and_each_growth_may_be_refused.Goals as goal

pub insisting-requires-frees-A-Allocator : goal.insisting-requires-frees-A-Allocator
insisting-requires-frees-A-Allocator g c κs = record { frees = λ r τ p. frees.frees r.now.inner τ p }
