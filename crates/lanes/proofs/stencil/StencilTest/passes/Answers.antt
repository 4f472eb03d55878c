use Rattle.std.proofs.Common.{◌≡◌, ◌∙◌, sym, subst, ap, refl, rules, true, slice_index}
use Rattle.lanes.specs.Stencil.{StencilRule, reference_passes}
use Rattle.lanes.specs.StencilInside.{rule_of}
use Rattle.gfxspec.specs.declared.state.Compare.TheVariants.{Always}
use Rattle.gfxspec.specs.DepthStencil.{compares}
use Rattle.std.specs.Prelude.{bit_and}
use Rattle.lanes.proofs.Keeping.{has_all}
use Rattle.lanes.proofs.stencil.StencilTest.passes.Goals as goal

pub returns : goal.returns
returns c = search rules

pub returns-then-eq : goal.returns-then-eq
returns-then-eq c = λ j h.
    let w = c.self.inside in
    let r = rule_of w in
    let always : w.func ≡ Always = search rules in
    let v = slice_index c.args.stored.now j in
    let P : StencilRule → Type 0 = λ r. true ≡ reference_passes r v in
    let here : P r = sym (ap (λ f. compares f (bit_and r.reference r.setting.read_mask) (bit_and v r.setting.read_mask)) (sym c.self.invariant.func ∙ always)) in
    has_all 255 j refl h ∙ subst P c.self.view_is here
