use Rattle.std.proofs.Common.{rules, w64, FitsSigned}
use Rattle.std.proofs.lemmas.Int.{to_z-of_z}
use Rattle.gfxspec.specs.Raster.{edge}
use Rattle.classify.proofs.Extremes.{greatest_of}
use Rattle.classify.proofs.greatest.Goals as goal

pub returns : goal.returns
returns c =
    let f : FitsSigned w64 c.at.result = search rules in
    let g : FitsSigned w64 c.step_x.result = search rules in
    let h : FitsSigned w64 c.step_y.result = search rules in
    let x = c.greatest_place-x.ensures in
    let y = c.greatest_place-y.ensures in
    simp to_z-of_z (greatest_of (edge c.args.edges.now c.args.i) c.args.rect c.at.result c.step_x.result c.step_y.result c.greatest_place-x.result c.greatest_place-y.result
    c.step_x.ensures.adds c.step_y.ensures.adds c.at.ensures.value c.at.ensures.anywhere
    (record { within = x.within; below = x.below; falling = simp to_z-of_z at x.falling; rising = simp to_z-of_z at x.rising })
    (record { within = y.within; below = y.below; falling = simp to_z-of_z at y.falling; rising = simp to_z-of_z at y.rising }))
