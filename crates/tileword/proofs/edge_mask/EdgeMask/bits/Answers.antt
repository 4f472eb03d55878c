use Rattle.std.proofs.Common.{rules}
use Rattle.tileword.proofs.edge_mask.EdgeMask.bits.Goals as goal

pub returns-clause-value : goal.returns-clause-value
returns-clause-value c = search rules
