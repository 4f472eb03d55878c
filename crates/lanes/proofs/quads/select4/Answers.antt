use Rattle.std.proofs.Common.{◌∙◌, ap, slice_index, eqb, rules}
use Rattle.std.specs.Prelude.{if◌then◌else◌}
use Rattle.lanes.proofs.FourLanes.{chosen, four, four_are}
use Rattle.lanes.proofs.quads.select4.Goals as goal

pub returns : goal.returns
returns c = λ j h.
    let xs = c.args.picked.now in
    chosen eqb xs (four 1) (search rules) (search rules) c.args.a.now c.args.b.now (search rules) (search rules) j h
    ∙ ap (λ n. if eqb (slice_index xs j) n then slice_index c.args.a.now j else slice_index c.args.b.now j) (four_are 1 j h)
