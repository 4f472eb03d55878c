use Rattle.std.proofs.Common.{◌≡◌, ◌∙◌, ap, sym, subst, rules, slice_index, ◌<◌}
use Rattle.std.specs.Prelude.{if◌then◌else◌}
use Rattle.gfxspec.specs.DepthStencil.{masked}
use Rattle.lanes.specs.Stencil.{StencilRule, has, stencil_after}
use Rattle.lanes.specs.StencilInside.{rule_of}
use Rattle.lanes.specs.ByteChange.{changed_at}
use Rattle.lanes.proofs.Keeping.{has_all, has_none, operated_by}
use Rattle.lanes.proofs.stencil.StencilTest.after.Goals as goal

pub returns : goal.returns
returns c = λ j h.
    let w = c.self.inside in
    let i = c.self.invariant in
    let v = slice_index c.args.stored.now j in
    let small : v < 256 = search rules in
    let new = slice_index c.select_bytes8-new.result j in
    let p = has c.args.passing j in
    let d = has c.args.deep j in
    let P : StencilRule → Type 0 = λ r. masked r.setting.write_mask new v ≡ stencil_after r p d v in
    let here : P (rule_of w) =
    ap (λ n. masked w.state.write_mask n v)
    (c.select_bytes8-new.ensures j h ∙ ap (λ n. if p then n else slice_index c.onto_each-3.result j) (c.select_bytes8-passed.ensures j h)
    ∙ operated_by (rule_of w) v p d _ _ _
    (c.onto_each.ensures j h ∙ i.pass.gives j v h small)
    (c.onto_each-2.ensures j h ∙ i.depth_fail.gives j v h small)
    (c.onto_each-3.ensures j h ∙ i.fail.gives j v h small)) in
    c.masked_each.ensures j h ∙ subst P c.self.view_is here

pub returns-then-deep-eq0 : goal.returns-then-deep-eq0
returns-then-deep-eq0 c = λ j h.
    let w = c.self.inside in
    let i = c.self.invariant in
    let v = slice_index c.args.stored.now j in
    let small : v < 256 = search rules in
    let P : StencilRule → Type 0 = λ r. masked r.setting.write_mask (changed_at w.depth_fail j v) v ≡ stencil_after r (has c.args.passing j) (has c.args.deep j) v in
    let here : P (rule_of w) =
    ap (λ n. masked w.state.write_mask n v) (i.depth_fail.gives j v h small)
    ∙ (λ k. stencil_after (rule_of w) (sym (has_all c.args.passing j c.if-passing-eq255.true h) k) (sym (has_none c.args.deep j c.if-deep-eq0.true) k) v) in
    c.changed_by.ensures j h ∙ subst P c.self.view_is here

pub returns-then-deep-eq255 : goal.returns-then-deep-eq255
returns-then-deep-eq255 c = λ j h.
    let w = c.self.inside in
    let i = c.self.invariant in
    let v = slice_index c.args.stored.now j in
    let small : v < 256 = search rules in
    let P : StencilRule → Type 0 = λ r. masked r.setting.write_mask (changed_at w.pass j v) v ≡ stencil_after r (has c.args.passing j) (has c.args.deep j) v in
    let here : P (rule_of w) =
    ap (λ n. masked w.state.write_mask n v) (i.pass.gives j v h small)
    ∙ (λ k. stencil_after (rule_of w) (sym (has_all c.args.passing j c.if-passing-eq255-2.true h) k) (sym (has_all c.args.deep j c.if-deep-eq255.true h) k) v) in
    c.changed_by-then-deep-eq255.ensures j h ∙ subst P c.self.view_is here
