use Rattle.std.proofs.Common.{rules}
use Rattle.gfxspec.proofs.state.LogicOp.number.Goals as goal

pub returns : goal.returns
returns c = search rules
