-- Bits of what is written.
use Rattle.std.proofs.Common.{◌≡◌, ◌∙◌, ap, sym, refl, arith, ℕ, zero, suc, ◌+◌, ◌-◌, ◌/◌, ◌%◌, ◌^◌, ◌<◌, ◌⊎◌, inl, inr, List, [], ◌∷◌, length, get_or, lit<, Bool, true, false, min, max}
use Rattle.std.specs.Prelude.{◌==◌, if◌then◌else◌}
use Rattle.std.specs.Int.{bit_at, from_le_bytes, to_le_bytes, w32}
use Rattle.std.proofs.lemmas.Nat.{le_bytes_4}
use Rattle.std.proofs.lemmas.Nat.Bits.{bit_at-lt, bit_at-zero, bit_at_ones, bit_at_not}
use Rattle.states.specs.ColorMask.{flag_bit}
use Rattle.gfxspec.specs.declared.state.LogicOp.{LogicOp}
use Rattle.gfxspec.specs.declared.state.LogicOp.TheVariants.{Clear, Copy}
use Rattle.gfxspec.specs.Color.{BlendSetting, logic_bit, logic_byte, written_channel, written_from, written_color}
use Rattle.logicop.specs.Outcome.{outcome, by_source}
use Rattle.logicop.specs.Packed.{written_packed}
use Rattle.logicop.proofs.Bytes.{bit_at-number_of_bits, number_of_bits-lt, bit_at-word, bit_at-byte}

-- a bit is 0 or 1
pub bit_cases : (n : ℕ) → n < 2 → (n ≡ 0) ⊎ (n ≡ 1)
bit_cases zero h = inl refl
bit_cases (suc zero) h = inr refl
bit_cases (suc (suc n)) h = absurd (omega arith)

-- a truth table holds bits
table_00 : (op : LogicOp) → logic_bit op 0 0 < 2
table_00 Clear = lit< tt
table_00 _ = lit< tt

table_01 : (op : LogicOp) → logic_bit op 0 1 < 2
table_01 Clear = lit< tt
table_01 _ = lit< tt

table_10 : (op : LogicOp) → logic_bit op 1 0 < 2
table_10 Clear = lit< tt
table_10 _ = lit< tt

table_11 : (op : LogicOp) → logic_bit op 1 1 < 2
table_11 Clear = lit< tt
table_11 _ = lit< tt

pub logic_bit-lt : (op : LogicOp) (s d : ℕ) → s < 2 → d < 2 → logic_bit op s d < 2
logic_bit-lt op zero zero hs hd = table_00 op
logic_bit-lt op zero (suc zero) hs hd = table_01 op
logic_bit-lt op (suc zero) zero hs hd = table_10 op
logic_bit-lt op (suc zero) (suc zero) hs hd = table_11 op
logic_bit-lt op (suc (suc s)) d hs hd = absurd (omega arith)
logic_bit-lt op zero (suc (suc d)) hs hd = absurd (omega arith)
logic_bit-lt op (suc zero) (suc (suc d)) hs hd = absurd (omega arith)

pub copied_bit : (s d : ℕ) → s < 2 → d < 2 → logic_bit Copy s d ≡ s
copied_bit zero zero hs hd = refl
copied_bit zero (suc zero) hs hd = refl
copied_bit (suc zero) zero hs hd = refl
copied_bit (suc zero) (suc zero) hs hd = refl
copied_bit (suc (suc s)) d hs hd = absurd (omega arith)
copied_bit zero (suc (suc d)) hs hd = absurd (omega arith)
copied_bit (suc zero) (suc (suc d)) hs hd = absurd (omega arith)

-- a bit that is chosen by the source's bit
chosen_bit : (a b s p : ℕ) → a < 2 → b < 2 → s < 2 ^ 32 → p < 32 → (bit_at s p ≡ 0 → bit_at (by_source a b s) p ≡ a) × (bit_at s p ≡ 1 → bit_at (by_source a b s) p ≡ b)
chosen_bit zero zero s p ha hb hs hp = (λ e. bit_at-zero p, λ e. bit_at-zero p)
chosen_bit zero (suc zero) s p ha hb hs hp = (λ e. e, λ e. e)
chosen_bit (suc zero) zero s p ha hb hs hp =
    let turned = bit_at_not w32 s p hs hp in
    (λ e. turned ∙ omega arith, λ e. turned ∙ omega arith)
chosen_bit (suc zero) (suc zero) s p ha hb hs hp = (λ e. bit_at_ones 32 p hp, λ e. bit_at_ones 32 p hp)
chosen_bit (suc (suc a)) b s p ha hb hs hp = absurd (omega arith)
chosen_bit zero (suc (suc b)) s p ha hb hs hp = absurd (omega arith)
chosen_bit (suc zero) (suc (suc b)) s p ha hb hs hp = absurd (omega arith)

pub bit_at-outcome : (op : LogicOp) (d s p : ℕ) → d < 2 → s < 2 ^ 32 → p < 32 → bit_at (outcome op d s) p ≡ logic_bit op (bit_at s p) d
bit_at-outcome op d s p hd hs hp =
    let chosen = chosen_bit (logic_bit op 0 d) (logic_bit op 1 d) s p (logic_bit-lt op 0 d (lit< tt) hd) (logic_bit-lt op 1 d (lit< tt) hd) hs hp in
    elim (bit_cases (bit_at s p) (bit_at-lt s p)) [
      | inl e ↦ chosen.0 e ∙ ap (λ n. logic_bit op n d) (sym e)
      | inr e ↦ chosen.1 e ∙ ap (λ n. logic_bit op n d) (sym e)
    ]

-- the two steps at one bit, where the channel is written or not
pub merged_bit : (op : LogicOp) (written : Bool) (s d : ℕ) → s < 2 → d < 2 →
    (min d (max ((logic_bit op s 0 + logic_bit op s 1) % 2) (1 - flag_bit written)) + min (logic_bit op s 0) (flag_bit written)) % 2 ≡ (if written then logic_bit op s d else d)
merged_bit op true s zero hs hd =
    let z = logic_bit-lt op s 0 hs (lit< tt) in
    omega arith
merged_bit op true s (suc zero) hs hd =
    let z = logic_bit-lt op s 0 hs (lit< tt) in
    let o = logic_bit-lt op s 1 hs (lit< tt) in
    omega arith
merged_bit op true s (suc (suc d)) hs hd = absurd (omega arith)
merged_bit op false s d hs hd =
    let z = logic_bit-lt op s 0 hs (lit< tt) in
    let o = logic_bit-lt op s 1 hs (lit< tt) in
    omega arith

-- what is written of a bit
abbrev pub written_bit : BlendSetting → ℕ → ℕ → ℕ → ℕ
written_bit b i s d = if bit_at b.mask i == 1 then (if b.logic then logic_bit b.op s d else s) else d

channel_bit : (written logic : Bool) (op : LogicOp) (s d k : ℕ) → k < 8 → bit_at (if written then (if logic then logic_byte op s d else s) else d) k ≡ (if written then (if logic then logic_bit op (bit_at s k) (bit_at d k) else bit_at s k) else bit_at d k)
channel_bit true true op s d k h =
    bit_at-number_of_bits 8 (λ i. logic_bit op (bit_at s i) (bit_at d i)) (λ i. logic_bit-lt op _ _ (bit_at-lt s i) (bit_at-lt d i)) k h
channel_bit true false op s d k h = refl
channel_bit false logic op s d k h = refl

channel_lt : (written logic : Bool) (op : LogicOp) (s d : ℕ) → s < 256 → d < 256 → (if written then (if logic then logic_byte op s d else s) else d) < 256
channel_lt true true op s d hs hd =
    number_of_bits-lt 8 (λ i. logic_bit op (bit_at s i) (bit_at d i)) (λ i. logic_bit-lt op _ _ (bit_at-lt s i) (bit_at-lt d i))
channel_lt true false op s d hs hd = hs
channel_lt false logic op s d hs hd = hd

-- each bit of what is written, a channel at a time
pub bit_at-written_packed : (b : BlendSetting) (s d k : ℕ) → k < 8 → let n = written_packed b s d in
    (bit_at n k ≡ written_bit b 0 (bit_at s k) (bit_at d k))
    × (bit_at n (8 + k) ≡ written_bit b 1 (bit_at s (8 + k)) (bit_at d (8 + k)))
    × (bit_at n (16 + k) ≡ written_bit b 2 (bit_at s (16 + k)) (bit_at d (16 + k)))
    × (bit_at n (24 + k) ≡ written_bit b 3 (bit_at s (24 + k)) (bit_at d (24 + k)))
unfolding written_packed
bit_at-written_packed b s d k h =
    let channel = λ (i x y : ℕ). written_channel b i x y in
    let small = λ (i x y : ℕ) (hx : x < 256) (hy : y < 256). channel_lt (bit_at b.mask i == 1) b.logic b.op x y hx hy in
    let bit = λ (i x y : ℕ). channel_bit (bit_at b.mask i == 1) b.logic b.op x y k h in
    let source = bit_at-byte s k h in
    let stored = bit_at-byte d k h in
    let word = bit_at-word _ _ _ _ k (small 0 (s % 256) (d % 256) (omega arith) (omega arith)) (small 1 (s / 256 % 256) (d / 256 % 256) (omega arith) (omega arith)) (small 2 (s / 65536 % 256) (d / 65536 % 256) (omega arith) (omega arith)) (small 3 (s / 16777216 % 256) (d / 16777216 % 256) (omega arith) (omega arith)) h in (
      word.0 ∙ bit 0 _ _ ∙ (λ i. written_bit b 0 (source.0 i) (stored.0 i)),
      word.1 ∙ bit 1 _ _ ∙ (λ i. written_bit b 1 (source.1 i) (stored.1 i)),
      word.2 ∙ bit 2 _ _ ∙ (λ i. written_bit b 2 (source.2 i) (stored.2 i)),
      word.3 ∙ bit 3 _ _ ∙ (λ i. written_bit b 3 (source.3 i) (stored.3 i)),
    )

pub written_packed-lt : (b : BlendSetting) (s d : ℕ) → written_packed b s d < 2 ^ 32
unfolding written_packed
written_packed-lt b s d =
    let small = λ (i x y : ℕ) (hx : x < 256) (hy : y < 256). channel_lt (bit_at b.mask i == 1) b.logic b.op x y hx hy in
    let r : written_channel b 0 (s % 256) (d % 256) < 256 = small 0 (s % 256) (d % 256) (omega arith) (omega arith) in
    let g : written_channel b 1 (s / 256 % 256) (d / 256 % 256) < 256 = small 1 (s / 256 % 256) (d / 256 % 256) (omega arith) (omega arith) in
    let bl : written_channel b 2 (s / 65536 % 256) (d / 65536 % 256) < 256 = small 2 (s / 65536 % 256) (d / 65536 % 256) (omega arith) (omega arith) in
    let a : written_channel b 3 (s / 16777216 % 256) (d / 16777216 % 256) < 256 = small 3 (s / 16777216 % 256) (d / 16777216 % 256) (omega arith) (omega arith) in
    omega arith

-- a written colour has as many channels as the source, and they are bytes
length-written_from : (b : BlendSetting) (i : ℕ) (s d : List ℕ) → length s ≡ length d → length (written_from b i s d) ≡ length s
length-written_from b i [] d e = refl
length-written_from b i (x ∷ s) [] e = sym e
length-written_from b i (x ∷ s) (y ∷ d) e = ap suc (length-written_from b (suc i) s d (omega arith))

written_from-lt : (b : BlendSetting) (i : ℕ) (s d : List ℕ) → ((k : ℕ) → get_or s k 0 < 256) → ((k : ℕ) → get_or d k 0 < 256) → (k : ℕ) → get_or (written_from b i s d) k 0 < 256
written_from-lt b i [] d hs hd k = lit< tt
written_from-lt b i (x ∷ s) [] hs hd k = lit< tt
written_from-lt b i (x ∷ s) (y ∷ d) hs hd zero = channel_lt (bit_at b.mask i == 1) b.logic b.op x y (hs 0) (hd 0)
written_from-lt b i (x ∷ s) (y ∷ d) hs hd (suc k) = written_from-lt b (suc i) s d (λ j. hs (suc j)) (λ j. hd (suc j)) k

-- what is written packed of packed colours is what is written of the colours
pub to_le_bytes-written_packed : (b : BlendSetting) (s d : List ℕ) → length s ≡ 4 → length d ≡ 4 → ((k : ℕ) → get_or s k 0 < 256) → ((k : ℕ) → get_or d k 0 < 256) →
    to_le_bytes w32 (written_packed b (from_le_bytes w32 s) (from_le_bytes w32 d)) ≡ written_color b s d
unfolding written_packed
to_le_bytes-written_packed b s d ls ld hs hd =
    let same_s = le_bytes_4 s (from_le_bytes w32 s) ls hs refl in
    let same_d = le_bytes_4 d (from_le_bytes w32 d) ld hd refl in
    (λ i. to_le_bytes w32 (from_le_bytes w32 (written_color b (same_s i) (same_d i))))
    ∙ le_bytes_4 (written_color b s d) _ (length-written_from b 0 s d (ls ∙ sym ld) ∙ ls) (written_from-lt b 0 s d hs hd) refl
