use Rattle.std.proofs.Common.{◌≡◌, ◌∙◌, ap, subst, slice_index}
use Rattle.std.specs.Prelude.{bit_and, bit_or}
use Rattle.std.proofs.lemmas.List.{get_or-replicate}
use Rattle.gfxspec.specs.DepthStencil.{masked}
use Rattle.lanes.specs.Stencil.{StencilRule}
use Rattle.lanes.specs.StencilInside.{rule_of}
use Rattle.lanes.proofs.stencil.StencilTest.masked_each.Goals as goal

pub returns : goal.returns
returns c = λ j h.
    let w = c.self.inside in
    let v = c.self.invariant in
    let mask = w.state.write_mask in
    let n = slice_index c.args.new.now j in
    let o = slice_index c.args.old.now j in
    let P : StencilRule → Type 0 = λ r. slice_index c.either_each.result j ≡ masked r.setting.write_mask n o in
    let written = ap (λ ms. slice_index ms j) v.write_mask ∙ get_or-replicate 8 j mask 0 h in
    let kept = ap (λ ms. slice_index ms j) v.kept_mask ∙ get_or-replicate 8 j _ 0 h in
    let here : P (rule_of w) =
    c.either_each.ensures j h
    ∙ (λ i. bit_or (c.under.ensures j h i) (c.under-2.ensures j h i))
    ∙ (λ i. bit_or (bit_and n (written i)) (bit_and o (kept i))) in
    subst P c.self.view_is here
