use Rattle.binner.proofs.Changing.{stays_forced}
use Rattle.binner.proofs.lists.put_in_force.Goals as goal

pub returns-then-is_drawn_since-clause-forced : goal.returns-then-is_drawn_since-clause-forced
returns-then-is_drawn_since-clause-forced g c =
    stays_forced c.args.tile c.args.current c.args.lists.now c.tail.result.now c.tail.ensures (c.is_drawn_since.ensures c.if-is_drawn_since.true)
