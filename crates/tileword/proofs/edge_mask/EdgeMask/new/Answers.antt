use Rattle.std.proofs.Common.{rules}
use Rattle.tileword.proofs.edge_mask.EdgeMask.new.Goals as goal

pub returns : goal.returns
returns c = search rules
