use Rattle.std.proofs.Common.{◌∙◌, ◌-◌, bit_and, bit_or}
use Rattle.std.specs.Prelude.{bit_xor}
use Rattle.logicop.proofs.Steps.{steps_write}
use Rattle.logicop.proofs.color_write.ColorWrite.of.Goals as goal

pub returns : goal.returns
returns c =
    let e = c.outcomes-clear.ensures in
    let m = c.channel_bits-channels.ensures in
    record {
      gives = λ d h.
          (λ i. bit_xor (bit_and d (bit_or (bit_xor (e.clear i) (e.set i)) (4294967295 - m i))) (bit_and (e.clear i) (m i)))
          ∙ steps_write c.args.op c.args.mask c.args.source d c.ranges.source.fits h;
    }
