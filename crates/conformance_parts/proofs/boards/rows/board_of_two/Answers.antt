use Rattle.std.proofs.Common.{ap}
use Rattle.conformance_parts.proofs.boards.rows.board_of_two.Goals as goal

pub hand_in-requires-clause-holding : goal.hand_in-requires-clause-holding
hand_in-requires-clause-holding g c κs = (c.claim-first.result.number, c.claim-first.result, ap (λ v. v.hand) c.claim-first.ensures.held, c.run.ensures)

pub hand_in-requires-2-clause-holding : goal.hand_in-requires-2-clause-holding
hand_in-requires-2-clause-holding g c κs = (c.claim-second.result.number, c.claim-second.result, ap (λ v. v.hand) c.claim-second.ensures.held, c.run-2.ensures)
