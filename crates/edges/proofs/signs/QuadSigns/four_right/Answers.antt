use Rattle.std.proofs.Common.{rules, w32, FitsSigned}
use Rattle.std.proofs.lemmas.Int.{to_z-of_z}
use Rattle.edges.proofs.SignLaws.{signs_across}
use Rattle.edges.proofs.signs.QuadSigns.four_right.Goals as goal

pub returns : goal.returns
returns c = λ e left top x y h.
    let f : FitsSigned w32 c.args.self.across = search rules in
    let g : FitsSigned w32 c.args.self.below = search rules in
    simp to_z-of_z (signs_across 4 c.args.self.lanes c.args.self.across c.args.self.below e left top x y f h)
