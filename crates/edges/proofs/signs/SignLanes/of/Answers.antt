use Rattle.std.proofs.Common.{rules, arith, refl, w32, w64, pos, ◌*ℤ◌, FitsSigned}
use Rattle.std.proofs.lemmas.Int.{to_z-of_z}
use Rattle.edges.proofs.SignLaws.{first_signs, eight_are, eight_fits, small_step, wrapped_lane}
use Rattle.edges.proofs.signs.SignLanes.of.Goals as goal

pub returns : goal.returns
returns c = λ e is.
    let first = c.cut_off-first.result in
    let right = c.args.function.step_x in
    let v : FitsSigned w64 c.short_at.result = search rules in
    let sign = simp to_z-of_z at c.cut_off-first.ensures.sign in
    let f : FitsSigned w32 first = search rules in
    let g : FitsSigned w32 right = search rules in
    let h : FitsSigned w32 c.args.function.step_y = search rules in
    let k : FitsSigned w32 (pos 8 *ℤ right) = eight_fits right (small_step right is.small.step_x) in
    simp to_z-of_z (first_signs 8 (omega arith) c.args.function e is c.args.x c.args.y c.short_at.result first (pos 8 *ℤ right) c.short_at.ensures c.cut_off-first.ensures.small sign f g
    refl _ refl (eight_are (wrapped_lane first right)))
