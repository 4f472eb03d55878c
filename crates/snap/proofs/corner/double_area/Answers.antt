use Rattle.std.proofs.Common.{rules}
use Rattle.snap.proofs.corner.double_area.Goals as goal

pub returns-clause-value : goal.returns-clause-value
returns-clause-value c = search rules
