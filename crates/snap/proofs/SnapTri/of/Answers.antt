use Rattle.std.proofs.Common.{rules}
use Rattle.snap.proofs.SnapTri.of.Goals as goal

pub returns : goal.returns
returns c = search rules
