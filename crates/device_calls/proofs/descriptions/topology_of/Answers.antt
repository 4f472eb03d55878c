use Rattle.device_calls.proofs.Numbered.{topology_found}
use Rattle.device_calls.proofs.descriptions.topology_of.Goals as goal

pub returns : goal.returns
returns c = topology_found c.args.number c.from_number.result c.from_number.ensures.some c.from_number.ensures.none
