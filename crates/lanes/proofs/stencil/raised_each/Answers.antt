use Rattle.std.proofs.Common.{◌∙◌, ap, rules, arith, ◌≡◌, ◌+◌, ◌-◌, ◌%◌, ◌<◌, length, map, ltb, cond, slice_index}
use Rattle.std.proofs.lemmas.List.{get_or-map, length-map}
use Rattle.lanes.proofs.Masks.{lane_of_both, long_by_less, lane_by_less, up_to_the_end}
use Rattle.lanes.proofs.stencil.raised_each.Goals as goal

pub returns : goal.returns
returns c = λ j h.
    let xs = c.args.values in
    let by = c.args.by in
    let x = slice_index xs j in
    let y = slice_index by j in
    let lx : length xs ≡ 8 = search rules in
    let lb : length by ≡ 8 = search rules in
    let room = map (λ v. 255 - v) xs in
    let lr : length room ≡ 8 = length-map xs (λ v. 255 - v) ∙ lx in
    let small : x < 256 = search rules in
    let few : y < 256 = search rules in
    let room_is = get_or-map (λ v. 255 - v) xs j 0 0 (omega (arith, lx)) in
    lane_of_both 8 (λ a b. (a + b) % 256) xs lx j h _ (long_by_less 8 by room by room lb lr lb lr)
    ∙ ap (λ n. (x + n) % 256) (lane_by_less 8 by room by room lb lr lb lr j h ∙ (λ i. cond (ltb y (room_is i)) y (room_is i)))
    ∙ up_to_the_end x y small few
