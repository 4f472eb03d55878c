use Rattle.device_calls.proofs.Numbered.{logic_op_found}
use Rattle.device_calls.proofs.descriptions.logic_op_of.Goals as goal

pub returns : goal.returns
returns c = logic_op_found c.args.number c.from_number.result c.from_number.ensures.some c.from_number.ensures.none
