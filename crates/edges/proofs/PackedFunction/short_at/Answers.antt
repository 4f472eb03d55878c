use Rattle.std.proofs.Common.{◌≡◌, rules, sym, subst, w64, FitsSigned}
use Rattle.std.proofs.lemmas.Int.{to_z-of_z}
use Rattle.edges.specs.Function.{linear, unpacked}
use Rattle.edges.specs.Signs.{IsShort}
use Rattle.edges.proofs.SignLaws.{short_linear}
use Rattle.edges.proofs.PackedFunction.short_at.Goals as goal

pub returns : goal.returns
returns c =
    let p = c.args.self in
    let f : FitsSigned w64 c.at.result = search rules in
    let g : FitsSigned w64 p.origin = search rules in
    let h : FitsSigned w64 c.short_value.result = search rules in
    let k : FitsSigned w64 p.step_x = search rules in
    let l : FitsSigned w64 p.step_y = search rules in
    let right : c.from.result ≡ p.step_x = search rules in
    let below : c.from-2.result ≡ p.step_y = search rules in
    let short = simp to_z-of_z at c.short_value.ensures.short in
    let value = simp (right, below, to_z-of_z) at c.at.ensures in
    simp to_z-of_z (subst (λ v. IsShort v (linear (unpacked p) c.args.x c.args.y)) (sym value) (short_linear p c.short_value.result c.args.x c.args.y short))
