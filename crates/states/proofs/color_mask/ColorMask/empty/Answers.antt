use Rattle.std.proofs.Common.{rules}
use Rattle.states.proofs.color_mask.ColorMask.empty.Goals as goal

pub returns : goal.returns
returns c = search rules
