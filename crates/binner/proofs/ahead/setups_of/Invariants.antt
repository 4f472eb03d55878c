use Rattle.std.proofs.Common.{map, take}
use Rattle.command.specs.Seen.{state_value}
use Rattle.binner.specs.Setups.{AreSetups}
use Rattle.binner.proofs.Slices.{primitive_at}
use Rattle.binner.proofs.ahead.setups_of.Given as goal

abbrev pub invariant-loop-tri : goal.invariant-loop-tri
invariant-loop-tri g l = AreSetups (state_value l.state) l.size (map primitive_at (take l.tri-index l.tris)) l.setups.items
