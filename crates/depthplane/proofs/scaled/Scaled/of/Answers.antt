use Rattle.std.proofs.Common.{rules, ◌≡◌, ◌∙◌, ap, sym, subst, ℕ, w64, FitsSigned}
use Rattle.std.specs.Prelude.{ℤ, pos}
use Rattle.std.specs.Int.{w128}
use Rattle.std.specs.Int.Signed.{le_z}
use Rattle.std.proofs.lemmas.Int.{to_z-of_z}
use Rattle.depthplane.specs.Linear.{value_at}
use Rattle.depthplane.specs.Scaled.{IsScaled}
use Rattle.depthplane.proofs.HeightLaws.{rises_is}
use Rattle.depthplane.proofs.ScaledLaws.{by_error}
use Rattle.depthplane.proofs.scaled.Scaled.of.Goals as goal

pub returns : goal.returns
returns c =
    let n = c.args.number in
    let d = pos c.of-by.result.number in
    let f : FitsSigned w64 c.args.divisor = search rules in
    let g : FitsSigned w64 n.step_x = search rules in
    let h : FitsSigned w64 n.step_y = search rules in
    let k : FitsSigned w128 c.at.result = search rules in
    let e = c.error_of-error.result in
    let same : d ≡ c.args.divisor = simp to_z-of_z at c.of-by.ensures in
    let begins = simp to_z-of_z at c.divide_origin-begins.ensures.exact in
    let right = simp to_z-of_z at c.divide-across.ensures.exact in
    let down = simp to_z-of_z at c.divide-below.ensures.exact in
    let p0 = c.parts_of.ensures in
    let p1 = c.parts_of-right.ensures in
    let p2 = c.parts_of-down.ensures in
    let x = c.error_of-error.ensures in
    let P : ℤ → Type 0 = λ m. IsScaled m d e c.parts_of.result in
    let Q : ℕ → Type 0 = λ v. IsScaled (value_at n c.args.start.left c.args.start.top) d e v in
    let first = by_error c.at.result d e c.parts_of.result x.small (p0.near c.at.result begins) (λ i. p0.exact c.at.result (x.origin i) begins) in
    let S : ℕ → ℤ → ℤ → Type 0 = λ v m t. IsScaled m t e v in
    record {
      error = x.small;
      begins = subst (S _ _) same (subst Q (sym c.led_back.ensures) (subst P c.at.ensures.value first));
      right = subst (S c.parts_of-right.result n.step_x) same (by_error n.step_x d e c.parts_of-right.result x.small (p1.near n.step_x right) (λ i. p1.exact n.step_x (x.right i) right));
      down = subst (S c.parts_of-down.result n.step_y) same (by_error n.step_y d e c.parts_of-down.result x.small (p2.near n.step_y down) (λ i. p2.exact n.step_y (x.down i) down));
      rises_right = ap (le_z (pos 0)) (to_z-of_z w64 n.step_x g) ∙ rises_is n.step_x;
      rises_down = ap (le_z (pos 0)) (to_z-of_z w64 n.step_y h) ∙ rises_is n.step_y;
      sure = simp to_z-of_z at c.is_sure.ensures;
      gentle = simp to_z-of_z at c.is_gentle.ensures;
    }
