use Rattle.std.proofs.Common.{◌∙◌, rules, ◌≡◌, ◌+◌, ◌-◌, ◌%◌, ◌<◌, length, slice_index}
use Rattle.lanes.proofs.Masks.{lane_of_both, long_by_less, lane_by_less, down_to_the_end}
use Rattle.lanes.proofs.stencil.lowered_each.Goals as goal

pub returns : goal.returns
returns c = λ j h.
    let xs = c.args.values in
    let by = c.args.by in
    let x = slice_index xs j in
    let y = slice_index by j in
    let lx : length xs ≡ 8 = search rules in
    let lb : length by ≡ 8 = search rules in
    let small : x < 256 = search rules in
    let few : y < 256 = search rules in
    lane_of_both 8 (λ a b. (a + (256 - b)) % 256) _ (long_by_less 8 xs by by xs lx lb lb lx) j h by lb
    ∙ (λ i. (lane_by_less 8 xs by by xs lx lb lb lx j h i + (256 - y)) % 256)
    ∙ down_to_the_end x y small few
