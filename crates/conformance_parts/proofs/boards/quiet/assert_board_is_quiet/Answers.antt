use Rattle.std.proofs.Crossing.{frees}
use Rattle.conformance_parts.proofs.boards.quiet.assert_board_is_quiet.Goals as goal

pub count_by_number-came-requires-frees-A-Allocator : goal.count_by_number-came-requires-frees-A-Allocator
count_by_number-came-requires-frees-A-Allocator g c κs = λ within. record { frees = λ r τ p. frees.frees r.inner τ p }
