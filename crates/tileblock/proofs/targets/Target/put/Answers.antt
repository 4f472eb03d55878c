use Rattle.std.proofs.Common.{rules}
use Rattle.tileblock.proofs.targets.Target.put.Goals as goal

pub returns : goal.returns
returns g c = search rules
