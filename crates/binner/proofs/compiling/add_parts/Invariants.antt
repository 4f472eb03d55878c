use Rattle.std.proofs.Common.{◌++◌}
use Rattle.assemble.specs.Drawing.{triangles_of}
use Rattle.command.specs.Seen.{state_value}
use Rattle.binner.specs.Setups.{all_setups}
use Rattle.binner.proofs.Filling.{Filled}
use Rattle.binner.proofs.compiling.add_parts.Given as goal

abbrev pub invariant-parts : goal.invariant-parts
invariant-parts g l =
    Filled l.fn.compiling l.compiling (state_value l.fn.state) l.fn.issues l.current (triangles_of l.fn.draw) (all_setups l.part-iterator.rest.items)

abbrev pub invariant-setups : goal.invariant-setups
invariant-setups g l =
    Filled l.fn.compiling l.compiling (state_value l.fn.state) l.fn.issues l.current (triangles_of l.fn.draw) (l.setup-iterator.rest.items ++ all_setups l.part-iterator.rest.items)
