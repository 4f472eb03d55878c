use Rattle.std.proofs.Common.{◌≡◌, ◌∙◌, ap, rules, arith, ◌+◌, ◌-◌, ◌%◌, ◌<◌, ℕ, length, slice_index, min}
use Rattle.std.specs.Prelude.{bit_xor}
use Rattle.lanes.proofs.Masks.{lane_of_front, lane_of_back}
use Rattle.lanes.proofs.stencil.ByteChanges.onto_both.Goals as goal

pub returns : goal.returns
returns c = λ j h.
    let s = c.args.self.now in
    let lr : length s.raise ≡ 8 = search rules in
    let ll : length s.lower ≡ 8 = search rules in
    let lt : length s.turn ≡ 8 = search rules in
    let lf : length s.flip ≡ 8 = search rules in
    let step : (k : ℕ) → k < 16 → (slice_index c.joined.result k ≡ slice_index s.raise j) → (slice_index c.joined-2.result k ≡ slice_index s.lower j) → (slice_index c.joined-turn.result k ≡ slice_index s.turn j) → (slice_index c.joined-3.result k ≡ slice_index s.flip j)
    → slice_index c.turned_both.result k ≡ bit_xor ((min (slice_index c.args.stored k + slice_index s.raise j) 255 - slice_index s.lower j + slice_index s.turn j) % 256) (slice_index s.flip j)
    = λ k l er el et ef. c.turned_both.ensures k l
    ∙ (λ i. bit_xor ((c.lowered_both-lowered.ensures k l i + et i) % 256) (ef i))
    ∙ (λ i. bit_xor ((c.raised_both-raised.ensures k l i - el i + slice_index s.turn j) % 256) (slice_index s.flip j))
    ∙ (λ i. bit_xor ((min (slice_index c.args.stored k + er i) 255 - slice_index s.lower j + slice_index s.turn j) % 256) (slice_index s.flip j)) in
    let low : j < 16 = omega (arith, h) in
    let high : 8 + j < 16 = omega (arith, h) in (
      step j low
          (ap (λ vs. slice_index vs j) c.joined.ensures ∙ lane_of_front s.raise s.raise lr j h)
          (ap (λ vs. slice_index vs j) c.joined-2.ensures ∙ lane_of_front s.lower s.lower ll j h)
          (ap (λ vs. slice_index vs j) c.joined-turn.ensures ∙ lane_of_front s.turn s.turn lt j h)
          (ap (λ vs. slice_index vs j) c.joined-3.ensures ∙ lane_of_front s.flip s.flip lf j h),
      step (8 + j) high
          (ap (λ vs. slice_index vs (8 + j)) c.joined.ensures ∙ lane_of_back s.raise s.raise lr j)
          (ap (λ vs. slice_index vs (8 + j)) c.joined-2.ensures ∙ lane_of_back s.lower s.lower ll j)
          (ap (λ vs. slice_index vs (8 + j)) c.joined-turn.ensures ∙ lane_of_back s.turn s.turn lt j)
          (ap (λ vs. slice_index vs (8 + j)) c.joined-3.ensures ∙ lane_of_back s.flip s.flip lf j),
    )
