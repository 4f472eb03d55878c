use Rattle.binner.proofs.Grid.{one_cleared}
use Rattle.binner.proofs.lists.add_to_all.Goals as goal

pub loop-tile-preserved : goal.loop-tile-preserved
loop-tile-preserved g c = one_cleared c.args.word c.args.lists.now c.loop-tile.lists c.add_clear.new.lists c.loop-tile.tile c.loop-tile.invariant c.in_ok-add_clear.ensures.taken c.in_ok-add_clear.ensures.sound c.in_ok-add_clear.ensures.bins
