use Rattle.workers.proofs.Coming.{coming, is_mine}
use Rattle.workers.proofs.crew.gather_seats.Goals as goal

pub try_pop_as-requires-clause-rule : goal.try_pop_as-requires-clause-rule
try_pop_as-requires-clause-rule g c = coming _ _

pub join_returned-seat-requires-clause-returned : goal.join_returned-seat-requires-clause-returned
join_returned-seat-requires-clause-returned g c κs within = let k = c.loop.invariant.pass.1 in is_mine c.args.run.now.board k.0 _ k.2 (c.in-Some-try_pop_as.ensures.rule.1 k.0 k.1)
