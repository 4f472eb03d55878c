use Rattle.std.proofs.Common.{◌≡◌, ◌+◌, ◌*◌, ◌<◌, ap, subst}
use Rattle.conformance_parts.proofs.boards.quiet.take_one.Goals as goal

pub hand_in-requires-clause-holding : goal.hand_in-requires-clause-holding
hand_in-requires-clause-holding g c κs within = (c.in-Some.tile.number, c.in-Some.tile, ap (λ v. v.hand) c.in-Some.ensures.some.2, subst (λ j. (c.run.result.number ≡ c.in-Some.tile.number) × (c.run.result.amount ≡ 2 * c.in-Some.tile.number + 5) × (c.in-Some.tile.number < 16384)) c.requires.own.1 c.run.ensures)
