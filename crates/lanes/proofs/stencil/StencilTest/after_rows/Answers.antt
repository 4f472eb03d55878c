use Rattle.std.proofs.Common.{◌≡◌, ◌∙◌, ap, sym, subst, rules, slice_index, length, ◌+◌, ◌<◌, true}
use Rattle.gfxspec.specs.DepthStencil.{masked}
use Rattle.lanes.specs.Stencil.{StencilRule, stencil_after}
use Rattle.lanes.specs.StencilInside.{rule_of}
use Rattle.lanes.specs.ByteChange.{changed_at}
use Rattle.lanes.proofs.Masks.{lane_of_front, lane_of_back}
use Rattle.lanes.proofs.stencil.StencilTest.after_rows.Goals as goal

pub returns-then-deep-clause-first : goal.returns-then-deep-clause-first
returns-then-deep-clause-first c = λ j h.
    let w = c.self.inside in
    let front = c.args.first.now in
    let back = c.args.second.now in
    let long : length front ≡ 8 = search rules in
    let v = slice_index front j in
    let small : v < 256 = search rules in
    let read : slice_index c.joined-both.result (j) ≡ v = ap (λ vs. slice_index vs (j)) c.joined-both.ensures ∙ lane_of_front front back long j h in
    let P : StencilRule → Type 0 = λ r. masked r.setting.write_mask (changed_at w.pass j v) v ≡ stencil_after r true c.args.deep v in
    let here : P (rule_of w) =
    ap (λ n. masked w.state.write_mask n v) (c.self.invariant.pass.gives j v h small)
    ∙ ap (λ d. stencil_after (rule_of w) true d v) (sym c.if-deep.true) in
    c.both_masked.ensures.first j h
    ∙ ap (λ n. masked c.args.self.now.setting.write_mask n (slice_index c.joined-both.result (j))) (c.onto_both.ensures j h).0
    ∙ ap (λ u. masked c.args.self.now.setting.write_mask (changed_at w.pass j u) u) read
    ∙ subst P c.self.view_is here

pub returns-then-deep-clause-second : goal.returns-then-deep-clause-second
returns-then-deep-clause-second c = λ j h.
    let w = c.self.inside in
    let front = c.args.first.now in
    let back = c.args.second.now in
    let long : length front ≡ 8 = search rules in
    let v = slice_index back j in
    let small : v < 256 = search rules in
    let read : slice_index c.joined-both.result (8 + j) ≡ v = ap (λ vs. slice_index vs (8 + j)) c.joined-both.ensures ∙ lane_of_back front back long j in
    let P : StencilRule → Type 0 = λ r. masked r.setting.write_mask (changed_at w.pass j v) v ≡ stencil_after r true c.args.deep v in
    let here : P (rule_of w) =
    ap (λ n. masked w.state.write_mask n v) (c.self.invariant.pass.gives j v h small)
    ∙ ap (λ d. stencil_after (rule_of w) true d v) (sym c.if-deep.true) in
    c.both_masked.ensures.second j h
    ∙ ap (λ n. masked c.args.self.now.setting.write_mask n (slice_index c.joined-both.result (8 + j))) (c.onto_both.ensures j h).1
    ∙ ap (λ u. masked c.args.self.now.setting.write_mask (changed_at w.pass j u) u) read
    ∙ subst P c.self.view_is here

pub returns-else-deep-clause-first : goal.returns-else-deep-clause-first
returns-else-deep-clause-first c = λ j h.
    let w = c.self.inside in
    let front = c.args.first.now in
    let back = c.args.second.now in
    let long : length front ≡ 8 = search rules in
    let v = slice_index front j in
    let small : v < 256 = search rules in
    let read : slice_index c.joined-both.result (j) ≡ v = ap (λ vs. slice_index vs (j)) c.joined-both.ensures ∙ lane_of_front front back long j h in
    let P : StencilRule → Type 0 = λ r. masked r.setting.write_mask (changed_at w.depth_fail j v) v ≡ stencil_after r true c.args.deep v in
    let here : P (rule_of w) =
    ap (λ n. masked w.state.write_mask n v) (c.self.invariant.depth_fail.gives j v h small)
    ∙ ap (λ d. stencil_after (rule_of w) true d v) (sym c.if-deep.false) in
    c.both_masked-else-deep.ensures.first j h
    ∙ ap (λ n. masked c.args.self.now.setting.write_mask n (slice_index c.joined-both.result (j))) (c.onto_both-else-deep.ensures j h).0
    ∙ ap (λ u. masked c.args.self.now.setting.write_mask (changed_at w.depth_fail j u) u) read
    ∙ subst P c.self.view_is here

pub returns-else-deep-clause-second : goal.returns-else-deep-clause-second
returns-else-deep-clause-second c = λ j h.
    let w = c.self.inside in
    let front = c.args.first.now in
    let back = c.args.second.now in
    let long : length front ≡ 8 = search rules in
    let v = slice_index back j in
    let small : v < 256 = search rules in
    let read : slice_index c.joined-both.result (8 + j) ≡ v = ap (λ vs. slice_index vs (8 + j)) c.joined-both.ensures ∙ lane_of_back front back long j in
    let P : StencilRule → Type 0 = λ r. masked r.setting.write_mask (changed_at w.depth_fail j v) v ≡ stencil_after r true c.args.deep v in
    let here : P (rule_of w) =
    ap (λ n. masked w.state.write_mask n v) (c.self.invariant.depth_fail.gives j v h small)
    ∙ ap (λ d. stencil_after (rule_of w) true d v) (sym c.if-deep.false) in
    c.both_masked-else-deep.ensures.second j h
    ∙ ap (λ n. masked c.args.self.now.setting.write_mask n (slice_index c.joined-both.result (8 + j))) (c.onto_both-else-deep.ensures j h).1
    ∙ ap (λ u. masked c.args.self.now.setting.write_mask (changed_at w.depth_fail j u) u) read
    ∙ subst P c.self.view_is here
