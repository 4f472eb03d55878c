use Rattle.std.proofs.Common.{ap}
use Rattle.conformance_parts.proofs.boards.rows.board_of_three_counts.Goals as goal

pub hand_in-requires-clause-holding : goal.hand_in-requires-clause-holding
hand_in-requires-clause-holding g c κs = (c.claim-tile.result.number, c.claim-tile.result, ap (λ v. v.hand) c.claim-tile.ensures.held, c.run.ensures)
