use Rattle.std.proofs.Common.{rules, ◌≡◌, length}
use Rattle.std.specs.Prelude.{bit_or}
use Rattle.lanes.proofs.Masks.{lane_of_both}
use Rattle.lanes.proofs.stencil.either_each.Goals as goal

pub returns : goal.returns
returns c = λ j h.
    let la : length c.args.a ≡ 8 = search rules in
    let lb : length c.args.b ≡ 8 = search rules in
    lane_of_both 8 bit_or c.args.a la j h c.args.b lb
