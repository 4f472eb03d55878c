use Rattle.std.proofs.Common.{rules}
use Rattle.states.proofs.color_mask.ColorMaskNot.not.Goals as goal

pub returns : goal.returns
returns c = search rules
