use Rattle.std.proofs.Common.{rules, ◌≡◌, length}
use Rattle.std.specs.Prelude.{bit_and}
use Rattle.lanes.proofs.Masks.{lane_of_both}
use Rattle.lanes.proofs.stencil.under.Goals as goal

pub returns : goal.returns
returns c = λ j h.
    let lv : length c.args.values ≡ 8 = search rules in
    let lm : length c.args.mask ≡ 8 = search rules in
    lane_of_both 8 bit_and c.args.values lv j h c.args.mask lm
