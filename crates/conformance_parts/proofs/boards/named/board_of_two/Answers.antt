use Rattle.std.proofs.Common.{ap}
use Rattle.conformance_parts.proofs.boards.named.board_of_two.Goals as goal

pub hand_in-requires-clause-holding : goal.hand_in-requires-clause-holding
hand_in-requires-clause-holding g c κs = (1, c.claim_number-last.result, ap (λ v. v.hand) c.claim_number-last.ensures.held, c.run.ensures)

pub hand_in-requires-2-clause-holding : goal.hand_in-requires-2-clause-holding
hand_in-requires-2-clause-holding g c κs = (0, c.claim_number-first.result, ap (λ v. v.hand) c.claim_number-first.ensures.held, c.run-2.ensures)
