use Rattle.std.proofs.Common.{◌≡◌, ◌∙◌, sym, subst, ap, rules, true}
use Rattle.std.specs.Prelude.{ℕ, bit_and}
use Rattle.lanes.specs.Stencil.{StencilRule, reference_passes}
use Rattle.lanes.specs.StencilInside.{rule_of}
use Rattle.gfxspec.specs.declared.state.Compare.TheVariants.{Always}
use Rattle.gfxspec.specs.DepthStencil.{compares}
use Rattle.lanes.proofs.stencil.StencilTest.always_passes.Goals as goal

pub returns : goal.returns
returns c = λ t.
    let w = c.self.inside in
    let always : w.func ≡ Always = search (rules, t) in
    let P : StencilRule → Type 0 = λ r. (v : ℕ) → reference_passes r v ≡ true in
    let here : P (rule_of w) = λ v. ap (λ f. compares f (bit_and (rule_of w).reference (rule_of w).setting.read_mask) (bit_and v (rule_of w).setting.read_mask)) (sym c.self.invariant.func ∙ always) in
    subst P c.self.view_is here
