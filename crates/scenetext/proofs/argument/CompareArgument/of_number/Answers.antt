use Rattle.gfxspec.specs.Numbers.{compare_number}
use Rattle.scenetext.specs.declared.range.TheConstants.{COMPARISON}
use Rattle.scenetext.proofs.ChoiceLemmas.{no_choice, compare_from, compare_back}
use Rattle.scenetext.proofs.argument.CompareArgument.of_number.Goals as goal

pub returns-clause-none : goal.returns-clause-none
returns-clause-none c = no_choice compare_number c.args.number c.from_number.result (compare_from c.args.number) COMPARISON (compare_back c.args.number) c.from_number.ensures.none
