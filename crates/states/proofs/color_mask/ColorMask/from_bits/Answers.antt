use Rattle.states.proofs.MaskOps.{mask_bits-tested}
use Rattle.states.proofs.color_mask.ColorMask.from_bits.Goals as goal

pub returns-then-bits-lt16-clause-value : goal.returns-then-bits-lt16-clause-value
returns-then-bits-lt16-clause-value c = mask_bits-tested c.args.bits c.if-bits-lt16.true
