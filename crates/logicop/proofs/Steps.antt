-- Keeping some bits of what is stored and flipping some is what a blend state writes.
use Rattle.std.proofs.Common.{◌≡◌, ◌∙◌, ap, sym, subst, refl, arith, ℕ, zero, suc, ◌+◌, ◌-◌, ◌*◌, ◌/◌, ◌%◌, ◌^◌, ◌<◌, List, length, get_or, lit<, Bool, true, false, min, max, bit_and, bit_or}
use Rattle.std.specs.Prelude.{◌==◌, if◌then◌else◌, bit_xor}
use Rattle.std.specs.Int.{bit_at, from_le_bytes, to_le_bytes, w32}
use Rattle.std.proofs.lemmas.Nat.{xor_lt, and_le_l, and_le_r}
use Rattle.std.proofs.lemmas.Nat.Bits.{bit_at-lt, bit_at-zero, bit_at_ones, bit_at_not, bit_at_and, bit_at_or, bit_at_xor, same_from_bits_below}
use Rattle.gfxspec.specs.declared.state.LogicOp.{LogicOp}
use Rattle.gfxspec.specs.declared.state.LogicOp.TheVariants.{Copy}
use Rattle.gfxspec.specs.Color.{BlendSetting, logic_bit, written_color}
use Rattle.states.specs.declared.color_mask.ColorMask.{ColorMask}
use Rattle.states.specs.ColorMask.{flag_bit, mask_bits}
use Rattle.states.specs.MaskLaws.{red_flag, green_flag, blue_flag, alpha_flag, flag_bit-le}
use Rattle.logicop.specs.Outcome.{outcome, channel_word}
use Rattle.logicop.specs.Packed.{written_packed, Writes}
use Rattle.logicop.specs.declared.color_write.ColorWrite.{ColorWrite}
use Rattle.logicop.proofs.Bytes.{bit_at-word}
use Rattle.logicop.proofs.Channels.{bit_at-outcome, merged_bit, written_bit, bit_at-written_packed, written_packed-lt, copied_bit, to_le_bytes-written_packed}

-- a fact of each bit, from the four channels'
by_channels : (P : ℕ → Type 0) → ((k : ℕ) → k < 8 → P k × P (8 + k) × P (16 + k) × P (24 + k)) → (p channel : ℕ) → p / 8 ≡ channel → p < 32 → P p
by_channels P each p zero e h = subst P (omega arith) (each (p % 8) (omega arith)).0
by_channels P each p (suc zero) e h = subst P (omega arith) (each (p % 8) (omega arith)).1
by_channels P each p (suc (suc zero)) e h = subst P (omega arith) (each (p % 8) (omega arith)).2
by_channels P each p (suc (suc (suc zero))) e h = subst P (omega arith) (each (p % 8) (omega arith)).3
by_channels P each p (suc (suc (suc (suc n)))) e h = absurd (omega arith)

flag_byte_bit : (set : Bool) (k : ℕ) → k < 8 → bit_at (255 * flag_bit set) k ≡ flag_bit set
flag_byte_bit true k h = bit_at_ones 8 k h
flag_byte_bit false k h = bit_at-zero k

flag_byte_lt : (set : Bool) → 255 * flag_bit set < 256
flag_byte_lt true = lit< tt
flag_byte_lt false = lit< tt

channel_word-lt : (m : ColorMask) → channel_word m < 2 ^ 32
channel_word-lt m =
    let r = flag_bit-le m.red in
    let g = flag_bit-le m.green in
    let b = flag_bit-le m.blue in
    let a = flag_bit-le m.alpha in
    omega arith

channel_word_bits : (m : ColorMask) (k : ℕ) → k < 8 → let n = channel_word m in
    (bit_at n k ≡ flag_bit m.red) × (bit_at n (8 + k) ≡ flag_bit m.green) × (bit_at n (16 + k) ≡ flag_bit m.blue) × (bit_at n (24 + k) ≡ flag_bit m.alpha)
channel_word_bits m k h =
    let word = bit_at-word _ _ _ _ k (flag_byte_lt m.red) (flag_byte_lt m.green) (flag_byte_lt m.blue) (flag_byte_lt m.alpha) h in
    (word.0 ∙ flag_byte_bit m.red k h, word.1 ∙ flag_byte_bit m.green k h, word.2 ∙ flag_byte_bit m.blue k h, word.3 ∙ flag_byte_bit m.alpha k h)

-- the two steps at one bit
steps_bit : (x y c d p : ℕ) → c < 2 ^ 32 → p < 32 →
    bit_at (bit_xor (bit_and d (bit_or (bit_xor x y) (2 ^ 32 - 1 - c))) (bit_and x c)) p
    ≡ (min (bit_at d p) (max ((bit_at x p + bit_at y p) % 2) (1 - bit_at c p)) + min (bit_at x p) (bit_at c p)) % 2
steps_bit x y c d p small h =
    let kept = bit_at_or (bit_xor x y) (2 ^ 32 - 1 - c) p ∙ (λ i. max (bit_at_xor x y p i) (bit_at_not w32 c p small h i)) in
    bit_at_xor (bit_and d (bit_or (bit_xor x y) (2 ^ 32 - 1 - c))) (bit_and x c) p
    ∙ (λ i. (bit_at_and d (bit_or (bit_xor x y) (2 ^ 32 - 1 - c)) p i + bit_at_and x c p i) % 2)
    ∙ (λ i. (min (bit_at d p) (kept i) + min (bit_at x p) (bit_at c p)) % 2)

abbrev pub steps : LogicOp → ColorMask → ℕ → ℕ → ℕ
steps op m s d =
    bit_xor (bit_and d (bit_or (bit_xor (outcome op 0 s) (outcome op 1 s)) (2 ^ 32 - 1 - channel_word m))) (bit_and (outcome op 0 s) (channel_word m))

steps_channel_bit : (op : LogicOp) (m : ColorMask) (set : Bool) (s d p : ℕ) → s < 2 ^ 32 → p < 32 → bit_at (channel_word m) p ≡ flag_bit set →
    bit_at (steps op m s d) p ≡ (if set then logic_bit op (bit_at s p) (bit_at d p) else bit_at d p)
steps_channel_bit op m set s d p hs hp e =
    let z = bit_at-outcome op 0 s p (lit< tt) hs hp in
    let o = bit_at-outcome op 1 s p (lit< tt) hs hp in
    steps_bit (outcome op 0 s) (outcome op 1 s) (channel_word m) d p (channel_word-lt m) hp
    ∙ (λ i. (min (bit_at d p) (max ((z i + o i) % 2) (1 - e i)) + min (z i) (e i)) % 2)
    ∙ merged_bit op set (bit_at s p) (bit_at d p) (bit_at-lt s p) (bit_at-lt d p)

steps_lt : (op : LogicOp) (m : ColorMask) (s d : ℕ) → d < 2 ^ 32 → steps op m s d < 2 ^ 32
steps_lt op m s d hd =
    let c = channel_word-lt m in
    let keep = bit_or (bit_xor (outcome op 0 s) (outcome op 1 s)) (2 ^ 32 - 1 - channel_word m) in
    let left = and_le_l d keep in
    let right = and_le_r (outcome op 0 s) (channel_word m) in
    xor_lt 32 (bit_and d keep) (bit_and (outcome op 0 s) (channel_word m)) (omega arith) (omega arith)

pub steps_write : (op : LogicOp) (m : ColorMask) (s d : ℕ) → s < 2 ^ 32 → d < 2 ^ 32 → steps op m s d ≡ written_packed (record { logic = true; op = op; mask = mask_bits m }) s d
steps_write op m s d hs hd =
    let b : BlendSetting = record { logic = true; op = op; mask = mask_bits m } in
    let P : ℕ → Type 0 = λ p. bit_at (steps op m s d) p ≡ bit_at (written_packed b s d) p in
    let each : (k : ℕ) → k < 8 → P k × P (8 + k) × P (16 + k) × P (24 + k) = λ k h.
    let channels = channel_word_bits m k h in
    let written = bit_at-written_packed b s d k h in
    let chosen = λ (p : ℕ) (t : Bool). if t then logic_bit op (bit_at s p) (bit_at d p) else bit_at d p in (
      steps_channel_bit op m m.red s d k hs (omega arith) channels.0 ∙ ap (chosen k) (sym (red_flag m)) ∙ sym written.0,
      steps_channel_bit op m m.green s d (8 + k) hs (omega arith) channels.1 ∙ ap (chosen (8 + k)) (sym (green_flag m)) ∙ sym written.1,
      steps_channel_bit op m m.blue s d (16 + k) hs (omega arith) channels.2 ∙ ap (chosen (16 + k)) (sym (blue_flag m)) ∙ sym written.2,
      steps_channel_bit op m m.alpha s d (24 + k) hs (omega arith) channels.3 ∙ ap (chosen (24 + k)) (sym (alpha_flag m)) ∙ sym written.3,
    ) in
    same_from_bits_below 32 _ _ (steps_lt op m s d hd) (written_packed-lt b s d) (λ p h. by_channels P each p (p / 8) refl h)

-- with the operation off, the source is written as by COPY
copied_written_bit : (op : LogicOp) (mask i s d : ℕ) → s < 2 → d < 2 → written_bit (record { logic = true; op = Copy; mask = mask }) i s d ≡ written_bit (record { logic = false; op = op; mask = mask }) i s d
copied_written_bit op mask i s d hs hd = ap (λ n. if bit_at mask i == 1 then n else d) (copied_bit s d hs hd)

pub copy_write : (op : LogicOp) (mask s d : ℕ) → written_packed (record { logic = true; op = Copy; mask = mask }) s d ≡ written_packed (record { logic = false; op = op; mask = mask }) s d
copy_write op mask s d =
    let copy : BlendSetting = record { logic = true; op = Copy; mask = mask } in
    let off : BlendSetting = record { logic = false; op = op; mask = mask } in
    let P : ℕ → Type 0 = λ p. bit_at (written_packed copy s d) p ≡ bit_at (written_packed off s d) p in
    let each : (k : ℕ) → k < 8 → P k × P (8 + k) × P (16 + k) × P (24 + k) = λ k h.
    let x = bit_at-written_packed copy s d k h in
    let y = bit_at-written_packed off s d k h in
    let same = λ (i p : ℕ). copied_written_bit op mask i (bit_at s p) (bit_at d p) (bit_at-lt s p) (bit_at-lt d p) in
    (x.0 ∙ same 0 k ∙ sym y.0, x.1 ∙ same 1 (8 + k) ∙ sym y.1, x.2 ∙ same 2 (16 + k) ∙ sym y.2, x.3 ∙ same 3 (24 + k) ∙ sym y.3) in
    same_from_bits_below 32 _ _ (written_packed-lt copy s d) (written_packed-lt off s d) (λ p h. by_channels P each p (p / 8) refl h)

-- the write of a blend state, by the operation and mask that were chosen for it
pub on_write : (v : BlendSetting) (op : LogicOp) (mask s d : ℕ) → v.logic ≡ true → op ≡ v.op → mask ≡ v.mask → written_packed (record { logic = true; op = op; mask = mask }) s d ≡ written_packed v s d
on_write v op mask s d on same_op same_mask i = written_packed (record { logic = sym on i; op = same_op i; mask = same_mask i }) s d

pub off_write : (v : BlendSetting) (op : LogicOp) (mask s d : ℕ) → v.logic ≡ false → op ≡ Copy → mask ≡ v.mask → written_packed (record { logic = true; op = op; mask = mask }) s d ≡ written_packed v s d
off_write v op mask s d off copies same_mask =
    (λ i. written_packed (record { logic = true; op = copies i; mask = mask }) s d)
    ∙ copy_write v.op mask s d
    ∙ (λ i. written_packed (record { logic = sym off i; op = v.op; mask = same_mask i }) s d)

-- a write of packed colours, as one of colours: p and q are the packed source and stored colour
pub written_bytes : (b : BlendSetting) (write : ColorWrite) (s d : List ℕ) (p q : ℕ) → Writes write b p → p ≡ from_le_bytes w32 s → q ≡ from_le_bytes w32 d → q < 2 ^ 32 →
    length s ≡ 4 → length d ≡ 4 → ((k : ℕ) → get_or s k 0 < 256) → ((k : ℕ) → get_or d k 0 < 256) → to_le_bytes w32 (bit_xor (bit_and q write.keep) write.flip) ≡ written_color b s d
written_bytes b write s d p q writes is_p is_q small ls ld hs hd =
    ap (to_le_bytes w32) (writes.gives q small)
    ∙ (λ i. to_le_bytes w32 (written_packed b (is_p i) (is_q i)))
    ∙ to_le_bytes-written_packed b s d ls ld hs hd
