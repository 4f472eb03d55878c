use Rattle.std.proofs.Common.{◌≡◌, ◌∙◌, ap, ℕ, ◌+◌, ◌-◌, ◌<◌, rules, arith, List, length, slice_index}
use Rattle.std.specs.Prelude.{bit_and, bit_or}
use Rattle.std.specs.Simd.Lanes.{zip2}
use Rattle.std.proofs.lemmas.List.{get_or-replicate, length-replicate}
use Rattle.gfxspec.specs.DepthStencil.{masked}
use Rattle.lanes.specs.Stencil.{StencilRule}
use Rattle.lanes.proofs.Masks.{lane_of_both, long_both, lane_of_front, lane_of_back}
use Rattle.lanes.proofs.stencil.StencilTest.both_masked.Goals as goal

-- lane k of new values under one mask and old under another
under_masks : (new old write keep : List ℕ) (k m n : ℕ) → length new ≡ 16 → length old ≡ 16 → length write ≡ 16 → length keep ≡ 16 → k < 16 → slice_index write k ≡ m → slice_index keep k ≡ n
    → slice_index (zip2 bit_or (zip2 bit_and new write) (zip2 bit_and old keep)) k ≡ bit_or (bit_and (slice_index new k) m) (bit_and (slice_index old k) n)
under_masks new old write keep k m n ln lo lw lk h em en =
    lane_of_both 16 bit_or _ (long_both 16 bit_and new write ln lw) k h _ (long_both 16 bit_and old keep lo lk)
    ∙ (λ i. bit_or (lane_of_both 16 bit_and new ln k h write lw i) (lane_of_both 16 bit_and old lo k h keep lk i))
    ∙ (λ i. bit_or (bit_and (slice_index new k) (em i)) (bit_and (slice_index old k) (en i)))

pub returns-clause-first : goal.returns-clause-first
returns-clause-first c = λ j h.
    let w = c.self.inside in
    let v = c.self.invariant in
    let mask = w.state.write_mask in
    let new = c.args.new in
    let old = c.args.old in
    let ln : length new ≡ 16 = search rules in
    let lo : length old ≡ 16 = search rules in
    let lw : length c.joined-write.result ≡ 16 = search rules in
    let lk : length c.joined-keep.result ≡ 16 = search rules in
    let long_w : length w.write_mask ≡ 8 = ap length v.write_mask ∙ length-replicate {A = ℕ} 8 mask in
    let long_k : length w.kept_mask ≡ 8 = ap length v.kept_mask ∙ length-replicate {A = ℕ} 8 (255 - mask) in
    let written = ap (λ ms. slice_index ms j) c.joined-write.ensures ∙ lane_of_front w.write_mask w.write_mask long_w j h ∙ ap (λ ms. slice_index ms j) v.write_mask ∙ get_or-replicate 8 j mask 0 h in
    let kept = ap (λ ms. slice_index ms j) c.joined-keep.ensures ∙ lane_of_front w.kept_mask w.kept_mask long_k j h ∙ ap (λ ms. slice_index ms j) v.kept_mask ∙ get_or-replicate 8 j (255 - mask) 0 h in
    c.front_of.ensures j h
    ∙ under_masks new old c.joined-write.result c.joined-keep.result j mask (255 - mask) ln lo lw lk (omega (arith, h)) written kept
    ∙ ap (λ (r : StencilRule). masked r.setting.write_mask (slice_index new j) (slice_index old j)) c.self.view_is

pub returns-clause-second : goal.returns-clause-second
returns-clause-second c = λ j h.
    let w = c.self.inside in
    let v = c.self.invariant in
    let mask = w.state.write_mask in
    let new = c.args.new in
    let old = c.args.old in
    let ln : length new ≡ 16 = search rules in
    let lo : length old ≡ 16 = search rules in
    let lw : length c.joined-write.result ≡ 16 = search rules in
    let lk : length c.joined-keep.result ≡ 16 = search rules in
    let long_w : length w.write_mask ≡ 8 = ap length v.write_mask ∙ length-replicate {A = ℕ} 8 mask in
    let long_k : length w.kept_mask ≡ 8 = ap length v.kept_mask ∙ length-replicate {A = ℕ} 8 (255 - mask) in
    let written = ap (λ ms. slice_index ms (8 + j)) c.joined-write.ensures ∙ lane_of_back w.write_mask w.write_mask long_w j ∙ ap (λ ms. slice_index ms j) v.write_mask ∙ get_or-replicate 8 j mask 0 h in
    let kept = ap (λ ms. slice_index ms (8 + j)) c.joined-keep.ensures ∙ lane_of_back w.kept_mask w.kept_mask long_k j ∙ ap (λ ms. slice_index ms j) v.kept_mask ∙ get_or-replicate 8 j (255 - mask) 0 h in
    c.back_of.ensures j h
    ∙ under_masks new old c.joined-write.result c.joined-keep.result (8 + j) mask (255 - mask) ln lo lw lk (omega (arith, h)) written kept
    ∙ ap (λ (r : StencilRule). masked r.setting.write_mask (slice_index new (8 + j)) (slice_index old (8 + j))) c.self.view_is
