use Rattle.std.proofs.Common.{rules}
use Rattle.assemble.proofs.sides.culled.Goals as goal

pub returns-in_default-Empty : goal.returns-in_default-Empty
returns-in_default-Empty c = search rules
