use Rattle.std.proofs.Common.{rules}
use Rattle.conformance_parts.proofs.FourTiles.{in_turn, turned, mixed}
use Rattle.conformance_parts.proofs.orders.tiles_run_in_any_order.Goals as goal

pub is_right_in-requires-clause-order : goal.is_right_in-requires-clause-order
is_right_in-requires-clause-order g c = in_turn _ (search rules) (search rules)

pub is_right_in-requires-2-clause-order : goal.is_right_in-requires-2-clause-order
is_right_in-requires-2-clause-order g c = turned _ (search rules) (search rules)

pub is_right_in-requires-3-clause-order : goal.is_right_in-requires-3-clause-order
is_right_in-requires-3-clause-order g c = mixed _ (search rules) (search rules)
