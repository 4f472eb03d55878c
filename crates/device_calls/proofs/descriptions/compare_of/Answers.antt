use Rattle.device_calls.proofs.Numbered.{compare_found}
use Rattle.device_calls.proofs.descriptions.compare_of.Goals as goal

pub returns : goal.returns
returns c = compare_found c.args.number c.from_number.result c.from_number.ensures.some c.from_number.ensures.none
