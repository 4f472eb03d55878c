use Rattle.std.proofs.Common.{rules}
use Rattle.snap.proofs.SnapTri.double_area.Goals as goal

pub returns-clause-value : goal.returns-clause-value
returns-clause-value c = search rules
