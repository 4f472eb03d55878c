use Rattle.std.proofs.Common.{arith, ◌≡◌, subst, ℕ, ◌<◌, true}
use Rattle.lanes.specs.Stencil.{StencilRule, has, stencil_after}
use Rattle.lanes.specs.StencilInside.{rule_of}
use Rattle.lanes.proofs.Keeping.{fails_there, passes_there, fail_kept, pass_kept, all_kept}
use Rattle.lanes.proofs.stencil.StencilTest.keeps.Goals as goal

pub returns-then-cover-passing-eq0 : goal.returns-then-cover-passing-eq0
returns-then-cover-passing-eq0 c = λ t.
    let w = c.self.inside in
    let i = c.self.invariant in
    let P : StencilRule → Type 0 = λ r. (j v : ℕ) → j < 8 → has c.args.cover j ≡ true → v < 256 → stencil_after r (has c.args.passing j) (has c.args.deep j) v ≡ v in
    let here : P (rule_of w) = λ j v h k l.
    let small : w.state.write_mask < 256 = omega (arith, i.mask_fits) in
    fail_kept (rule_of w) v small l _ _ (fails_there c.args.cover c.args.passing j c.if-cover-passing-eq0.true k) (i.fail_keeps t) in
    subst P c.self.view_is here

pub returns-then-cover-passing : goal.returns-then-cover-passing
returns-then-cover-passing c = λ t.
    let w = c.self.inside in
    let i = c.self.invariant in
    let P : StencilRule → Type 0 = λ r. (j v : ℕ) → j < 8 → has c.args.cover j ≡ true → v < 256 → stencil_after r (has c.args.passing j) (has c.args.deep j) v ≡ v in
    let here : P (rule_of w) = λ j v h k l.
    let small : w.state.write_mask < 256 = omega (arith, i.mask_fits) in
    let both = passes_there c.args.cover c.args.passing c.args.deep j c.if-cover-passing.true k in
    pass_kept (rule_of w) v small l _ _ both.0 both.1 (i.pass_keeps t) in
    subst P c.self.view_is here

pub returns : goal.returns
returns c = λ t.
    let w = c.self.inside in
    let i = c.self.invariant in
    let P : StencilRule → Type 0 = λ r. (j v : ℕ) → j < 8 → has c.args.cover j ≡ true → v < 256 → stencil_after r (has c.args.passing j) (has c.args.deep j) v ≡ v in
    let here : P (rule_of w) = λ j v h k l.
    let small : w.state.write_mask < 256 = omega (arith, i.mask_fits) in
    all_kept (rule_of w) v small l (has c.args.passing j) (has c.args.deep j) (i.all_keep t) in
    subst P c.self.view_is here
