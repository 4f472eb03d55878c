use Rattle.gfxspec.specs.Numbers.{logic_op_number}
use Rattle.scenetext.specs.declared.range.TheConstants.{LOGIC_OP}
use Rattle.scenetext.proofs.ChoiceLemmas.{no_choice, logic_op_from, logic_op_back}
use Rattle.scenetext.proofs.argument.LogicOpArgument.of_number.Goals as goal

pub returns-clause-none : goal.returns-clause-none
returns-clause-none c = no_choice logic_op_number c.args.number c.from_number.result (logic_op_from c.args.number) LOGIC_OP (logic_op_back c.args.number) c.from_number.ensures.none
