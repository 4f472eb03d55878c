use Rattle.device_calls.proofs.Numbered.{cull_found}
use Rattle.device_calls.proofs.descriptions.cull_of.Goals as goal

pub returns : goal.returns
returns c = cull_found c.args.number c.from_number.result c.from_number.ensures.some c.from_number.ensures.none
