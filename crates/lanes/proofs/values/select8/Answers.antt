use Rattle.std.proofs.Common.{◌∙◌, ap, slice_index, w32, rules}
use Rattle.std.specs.Prelude.{◌==◌, if◌then◌else◌}
use Rattle.std.specs.Int.{bit_at}
use Rattle.lanes.proofs.Masks.{picked_is}
use Rattle.lanes.proofs.values.select8.Goals as goal

pub returns : goal.returns
returns c = λ j h.
    picked_is w32 c.from.result j c.args.a.now c.args.b.now h (search rules) (search rules)
    ∙ ap (λ w. if bit_at w j == 1 then slice_index c.args.a.now j else slice_index c.args.b.now j) c.from.ensures
