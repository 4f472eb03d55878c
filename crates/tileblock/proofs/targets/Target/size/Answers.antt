use Rattle.std.proofs.Common.{rules}
use Rattle.tileblock.proofs.targets.Target.size.Goals as goal

pub returns-clause-value : goal.returns-clause-value
returns-clause-value g c = search rules
