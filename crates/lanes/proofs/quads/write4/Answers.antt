use Rattle.std.proofs.Common.{◌≡◌, ◌∙◌, ap, bit_and, length, slice_index, rules}
use Rattle.std.specs.Prelude.{bit_xor}
use Rattle.lanes.proofs.Masks.{lane_of_both, long_both}
use Rattle.lanes.proofs.FourLanes.{four, four_are}
use Rattle.lanes.proofs.quads.write4.Goals as goal

pub returns : goal.returns
returns c = λ j h.
    let d = c.args.d.now in
    let keep = c.args.write.keep in
    let flip = c.args.write.flip in
    let long : length d ≡ 4 = search rules in
    let lk : length (four keep) ≡ 4 = search rules in
    let lf : length (four flip) ≡ 4 = search rules in
    lane_of_both 4 bit_xor _ (long_both 4 bit_and d (four keep) long lk) j h (four flip) lf
    ∙ (λ i. bit_xor (lane_of_both 4 bit_and d long j h (four keep) lk i) (four_are flip j h i))
    ∙ ap (λ k. bit_xor (bit_and (slice_index d j) k) flip) (four_are keep j h)
