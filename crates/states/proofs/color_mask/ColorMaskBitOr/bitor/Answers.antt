use Rattle.std.proofs.Common.{sym}
use Rattle.states.proofs.MaskOps.{mask_bits-or}
use Rattle.states.proofs.color_mask.ColorMaskBitOr.bitor.Goals as goal

pub returns : goal.returns
returns c = sym (mask_bits-or c.args.self c.args.other)
