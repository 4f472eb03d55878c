use Rattle.std.proofs.Common.{◌∙◌, rules, ◌≡◌, ℕ, ◌+◌, ◌%◌, length, slice_index}
use Rattle.std.specs.Prelude.{bit_xor}
use Rattle.lanes.proofs.Masks.{lane_of_both, long_both}
use Rattle.lanes.proofs.stencil.turned_both.Goals as goal

pub returns : goal.returns
returns c = λ j h.
    let add : ℕ → ℕ → ℕ = λ a b. (a + b) % 256 in
    let xs = c.args.values in
    let by = c.args.by in
    let flip = c.args.flip in
    let lx : length xs ≡ 16 = search rules in
    let lb : length by ≡ 16 = search rules in
    let lf : length flip ≡ 16 = search rules in
    lane_of_both 16 bit_xor _ (long_both 16 add xs by lx lb) j h flip lf
    ∙ (λ i. bit_xor (lane_of_both 16 add xs lx j h by lb i) (slice_index flip j))
