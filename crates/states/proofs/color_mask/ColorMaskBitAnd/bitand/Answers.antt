use Rattle.std.proofs.Common.{sym}
use Rattle.states.proofs.MaskOps.{mask_bits-and}
use Rattle.states.proofs.color_mask.ColorMaskBitAnd.bitand.Goals as goal

pub returns : goal.returns
returns c = sym (mask_bits-and c.args.self c.args.other)
