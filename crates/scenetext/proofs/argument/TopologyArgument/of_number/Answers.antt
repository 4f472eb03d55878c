use Rattle.gfxspec.specs.Numbers.{topology_number}
use Rattle.scenetext.specs.declared.range.TheConstants.{TOPOLOGY}
use Rattle.scenetext.proofs.ChoiceLemmas.{no_choice, topology_from, topology_back}
use Rattle.scenetext.proofs.argument.TopologyArgument.of_number.Goals as goal

pub returns-clause-none : goal.returns-clause-none
returns-clause-none c = no_choice topology_number c.args.number c.from_number.result (topology_from c.args.number) TOPOLOGY (topology_back c.args.number) c.from_number.ensures.none
