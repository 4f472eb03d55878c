use Rattle.std.proofs.Common.{sym}
use Rattle.states.proofs.MaskOps.{mask_bits-xor}
use Rattle.states.proofs.color_mask.ColorMaskBitXor.bitxor.Goals as goal

pub returns : goal.returns
returns c = sym (mask_bits-xor c.args.self c.args.other)
