use Rattle.gfxspec.specs.Numbers.{cull_number}
use Rattle.scenetext.specs.declared.range.TheConstants.{CULL}
use Rattle.scenetext.proofs.ChoiceLemmas.{no_choice, cull_from, cull_back}
use Rattle.scenetext.proofs.argument.CullArgument.of_number.Goals as goal

pub returns-clause-none : goal.returns-clause-none
returns-clause-none c = no_choice cull_number c.args.number c.from_number.result (cull_from c.args.number) CULL (cull_back c.args.number) c.from_number.ensures.none
