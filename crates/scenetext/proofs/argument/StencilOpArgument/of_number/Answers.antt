use Rattle.gfxspec.specs.Numbers.{stencil_op_number}
use Rattle.scenetext.specs.declared.range.TheConstants.{STENCIL_OP}
use Rattle.scenetext.proofs.ChoiceLemmas.{no_choice, stencil_op_from, stencil_op_back}
use Rattle.scenetext.proofs.argument.StencilOpArgument.of_number.Goals as goal

pub returns-clause-none : goal.returns-clause-none
returns-clause-none c = no_choice stencil_op_number c.args.number c.from_number.result (stencil_op_from c.args.number) STENCIL_OP (stencil_op_back c.args.number) c.from_number.ensures.none
