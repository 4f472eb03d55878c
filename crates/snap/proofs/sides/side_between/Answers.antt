use Rattle.std.proofs.Common.{rules, w64, FitsSigned}
use Rattle.std.proofs.lemmas.Int.{to_z-of_z}
use Rattle.snap.specs.Wide.{point_of}
use Rattle.snap.proofs.SideLaws.{side_is}
use Rattle.snap.proofs.sides.side_between.Goals as goal

pub returns : goal.returns
returns c =
    let f1 : FitsSigned w64 c.between.result = search rules in
    let f2 : FitsSigned w64 c.between-2.result = search rules in
    let f3 : FitsSigned w64 c.between-3.result = search rules in
    let f4 : FitsSigned w64 c.between-4.result = search rules in
    let f5 : FitsSigned w64 c.negated_if-dx.result = search rules in
    let f6 : FitsSigned w64 c.negated_if-dy.result = search rules in
    let f7 : FitsSigned w64 c.cross.result = search rules in
    let f8 : FitsSigned w64 c.negated_if.result = search rules in
    let f9 : FitsSigned w64 c.whole_pixel.result = search rules in
    let f10 : FitsSigned w64 c.whole_pixel-2.result = search rules in
    let g1 : FitsSigned w64 c.args.start.x = search rules in
    let g2 : FitsSigned w64 c.args.start.y = search rules in
    let g3 : FitsSigned w64 c.args.end.x = search rules in
    let g4 : FitsSigned w64 c.args.end.y = search rules in
    let g5 : FitsSigned w64 c.args.area = search rules in
    let b1 = simp to_z-of_z at c.between.ensures.value in
    let b2 = simp to_z-of_z at c.between-2.ensures.value in
    let b3 = simp to_z-of_z at c.between-3.ensures.value in
    let b4 = simp to_z-of_z at c.between-4.ensures.value in
    let n1 = simp to_z-of_z at c.negated_if-dx.ensures.value in
    let n2 = simp to_z-of_z at c.negated_if-dy.ensures.value in
    let s = simp to_z-of_z at c.cross.ensures.value in
    let o = simp to_z-of_z at c.negated_if.ensures.value in
    let w1 = rw o at (simp to_z-of_z at c.whole_pixel.ensures.value) in
    let w2 = simp to_z-of_z at c.whole_pixel-2.ensures.value in
    simp to_z-of_z (side_is (point_of c.args.start) (point_of c.args.end) c.args.area c.between.result c.between-2.result c.negated_if-dx.result c.negated_if-dy.result c.between-3.result c.between-4.result c.cross.result c.whole_pixel.result c.whole_pixel-2.result
    b1 b2 n1 n2 b3 b4 s w1 w2
    (record { origin = c.cross.ensures.bound; step_x = c.whole_pixel.ensures.bound; step_y = c.whole_pixel-2.ensures.bound }))
