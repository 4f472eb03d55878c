-- A write for a blend state and a source colour, where bits of the stored colours are still to be flipped.
use Rattle.std.proofs.Common.{◌≡◌, ◌∙◌, ap, sym, refl, arith, ℕ, zero, suc, ◌+◌, ◌%◌, ◌<◌, ◌^◌, List, length, get_or, min}
use Rattle.std.specs.Prelude.{bit_and, bit_xor}
use Rattle.std.specs.Int.{bit_at, to_le_bytes, from_le_bytes, w32}
use Rattle.std.specs.Int.Bits.{xor_assoc, xor_zero_l, xor_zero_r, and_zero_r}
use Rattle.std.proofs.lemmas.Nat.{and_le_l, and_mask, xor_lt, from_le_bytes-to_le_bytes_4, le_bytes_4}
use Rattle.std.proofs.lemmas.Nat.Bits.{bit_at-lt, bit_at_and, bit_at_xor, same_from_bits}
use Rattle.gfxspec.specs.Color.{BlendSetting, written_color}
use Rattle.logicop.specs.declared.color_write.ColorWrite.{ColorWrite}
use Rattle.logicop.specs.Packed.{Writes}
use Rattle.logicop.proofs.Steps.{written_bytes}
use Rattle.tileblock.specs.Block.{Block, pixel_at, span_of, value_at}
use Rattle.tileprog.specs.Painting.{painted_with, flipped_color, stands_for, written, PaintsAs}

byte_small : (n k : ℕ) → get_or (to_le_bytes w32 n) k 0 < 256
byte_small n zero = omega arith
byte_small n (suc zero) = omega arith
byte_small n (suc (suc zero)) = omega arith
byte_small n (suc (suc (suc zero))) = omega arith
byte_small n (suc (suc (suc (suc k)))) = omega arith

-- a packed colour, whatever number its bytes were made of
abbrev packed : ℕ → ℕ
packed n = from_le_bytes w32 (to_le_bytes w32 n)

packed_small : (n : ℕ) → packed n < 2 ^ 32
packed_small n = omega arith

same_bytes : (n : ℕ) → to_le_bytes w32 (packed n) ≡ to_le_bytes w32 n
same_bytes n = le_bytes_4 (to_le_bytes w32 n) (packed n) refl (byte_small n) refl

keeps_all : (n : ℕ) → n < 2 ^ 32 → bit_and n 4294967295 ≡ n
keeps_all n small = and_mask n 32 ∙ whole
  where
    whole : n % 2 ^ 32 ≡ n
    whole = omega arith

-- ---- flips

-- a bit that is flipped behind a write is the bit that is written where it was flipped before
flip_bit : (m k f x : ℕ) → m < 2 → k < 2 → f < 2 → x < 2 → ((min m k + ((f + x) % 2 + min x k) % 2) % 2 + x) % 2 ≡ (min ((m + x) % 2) k + f) % 2
flip_bit zero k f x hm hk hf hx = by k x f hk hx hf
  where
    by : (k x f : ℕ) → k < 2 → x < 2 → f < 2 → ((min 0 k + ((f + x) % 2 + min x k) % 2) % 2 + x) % 2 ≡ (min ((0 + x) % 2) k + f) % 2
    by zero zero f hk hx hf = omega arith
    by zero (suc zero) f hk hx hf = omega arith
    by (suc zero) zero f hk hx hf = omega arith
    by (suc zero) (suc zero) f hk hx hf = omega arith
    by k (suc (suc x)) f hk hx hf = absurd (omega (arith, hx))
    by (suc (suc k)) x f hk hx hf = absurd (omega (arith, hk))
flip_bit (suc zero) k f x hm hk hf hx = by k x f hk hx hf
  where
    by : (k x f : ℕ) → k < 2 → x < 2 → f < 2 → ((min 1 k + ((f + x) % 2 + min x k) % 2) % 2 + x) % 2 ≡ (min ((1 + x) % 2) k + f) % 2
    by zero zero f hk hx hf = omega arith
    by zero (suc zero) f hk hx hf = omega arith
    by (suc zero) zero f hk hx hf = omega arith
    by (suc zero) (suc zero) f hk hx hf = omega arith
    by k (suc (suc x)) f hk hx hf = absurd (omega (arith, hx))
    by (suc (suc k)) x f hk hx hf = absurd (omega (arith, hk))
flip_bit (suc (suc m)) k f x hm hk hf hx = absurd (omega (arith, hm))

-- the bits that a write flips, where others are still to be flipped
abbrev under : ℕ → ℕ → ℕ → ℕ
under keep f x = bit_xor (bit_xor f x) (bit_and x keep)

flips_under : (m keep f x : ℕ) → bit_xor (bit_xor (bit_and m keep) (under keep f x)) x ≡ bit_xor (bit_and (bit_xor m x) keep) f
flips_under m keep f x = same_from_bits _ _ at
  where
    at : (i : ℕ) → bit_at (bit_xor (bit_xor (bit_and m keep) (under keep f x)) x) i ≡ bit_at (bit_xor (bit_and (bit_xor m x) keep) f) i
    at i =
        bit_at_xor (bit_xor (bit_and m keep) (under keep f x)) x i
        ∙ ap (λ n. (n + bit_at x i) % 2) (bit_at_xor (bit_and m keep) (under keep f x) i)
        ∙ (λ j. ((bit_at_and m keep i j + (bit_at_xor (bit_xor f x) (bit_and x keep) i j)) % 2 + bit_at x i) % 2)
        ∙ (λ j. ((min (bit_at m i) (bit_at keep i) + (bit_at_xor f x i j + bit_at_and x keep i j) % 2) % 2 + bit_at x i) % 2)
        ∙ flip_bit (bit_at m i) (bit_at keep i) (bit_at f i) (bit_at x i) (bit_at-lt m i) (bit_at-lt keep i) (bit_at-lt f i) (bit_at-lt x i)
        ∙ sym (bit_at_xor (bit_and (bit_xor m x) keep) f i ∙ ap (λ n. (n + bit_at f i) % 2) (bit_at_and (bit_xor m x) keep i ∙ ap (λ n. min n (bit_at keep i)) (bit_at_xor m x i)))

-- ---- writes

module _ (b : BlendSetting) (write : ColorWrite) (s : List ℕ) (p : ℕ) (writes : Writes write b p) (is : p ≡ from_le_bytes w32 s) (ls : length s ≡ 4) (hs : (k : ℕ) → get_or s k 0 < 256) where
  -- a write on packed colours
  on_packed : (stored : ℕ) → stored < 2 ^ 32 → to_le_bytes w32 (bit_xor (bit_and stored write.keep) write.flip) ≡ written_color b s (to_le_bytes w32 stored)
  on_packed stored small = written_bytes b write s (to_le_bytes w32 stored) p stored writes is (sym (from_le_bytes-to_le_bytes_4 stored small)) small ls refl hs (byte_small stored)

  -- what it is turned into where bits are still to be flipped
  pub paints_under : (flip : ℕ) → write.flip < 2 ^ 32 → flip < 2 ^ 32 → PaintsAs (record { keep = write.keep; flip = under write.keep write.flip flip }) b s flip
  paints_under flip few small = record {
    gives = λ stored.
        let m = packed stored in
        let changed = under write.keep write.flip flip in
        let low : bit_and m write.keep < 2 ^ 32 = (let less = and_le_l m write.keep in let top = packed_small stored in omega (arith, less, top)) in
        let low_flip : bit_and flip write.keep < 2 ^ 32 = (let less = and_le_l flip write.keep in omega (arith, less, small)) in
        let fits = xor_lt 32 (bit_and m write.keep) changed low (xor_lt 32 _ _ (xor_lt 32 write.flip flip few small) low_flip) in
        ap (λ n. to_le_bytes w32 (bit_xor n flip)) (from_le_bytes-to_le_bytes_4 (bit_xor (bit_and m write.keep) changed) fits)
        ∙ ap (to_le_bytes w32) (flips_under m write.keep write.flip flip)
        ∙ on_packed (bit_xor m flip) (xor_lt 32 m flip (packed_small stored) small);
  }

  -- one that keeps every bit flips later
  pub flips_later : (stored flip : ℕ) → flip < 2 ^ 32 → write.keep ≡ 4294967295 → flipped_color (bit_xor flip write.flip) (to_le_bytes w32 stored) ≡ written_color b s (flipped_color flip (to_le_bytes w32 stored))
  flips_later stored flip small all =
      let m = packed stored in
      let fits = xor_lt 32 m flip (packed_small stored) small in
      ap (to_le_bytes w32)
      (sym (xor_assoc m flip write.flip) ∙ ap (λ n. bit_xor n write.flip) (sym (keeps_all (bit_xor m flip) fits)) ∙ ap (λ k. bit_xor (bit_and (bit_xor m flip) k) write.flip) (sym all))
      ∙ on_packed (bit_xor m flip) fits

  -- one that keeps none leaves nothing to be flipped
  pub paints_all : (stored flip : ℕ) → write.flip < 2 ^ 32 → write.keep ≡ 0 → flipped_color 0 (painted_with (record { keep = 0; flip = write.flip }) (to_le_bytes w32 stored)) ≡ written_color b s (flipped_color flip (to_le_bytes w32 stored))
  paints_all stored flip few none =
      let m = packed stored in
      let k = packed (bit_xor m flip) in
      let over : (n : ℕ) → bit_xor (bit_and n 0) write.flip ≡ write.flip = λ n. ap (λ z. bit_xor z write.flip) (and_zero_r n) ∙ xor_zero_l write.flip in
      ap (λ n. to_le_bytes w32 (bit_xor (from_le_bytes w32 (to_le_bytes w32 n)) 0)) (over m)
      ∙ ap (to_le_bytes w32) (xor_zero_r (packed write.flip) ∙ from_le_bytes-to_le_bytes_4 write.flip few ∙ sym (over k) ∙ ap (λ keep. bit_xor (bit_and k keep) write.flip) (sym none))
      ∙ on_packed k (packed_small (bit_xor m flip)) ∙ ap (written_color b s) (same_bytes (bit_xor m flip))

  -- a write that keeps every bit and flips none leaves each colour as it is
  pub color_kept : write.keep ≡ 4294967295 → write.flip ≡ 0 → (n : ℕ) → written_color b s (to_le_bytes w32 n) ≡ to_le_bytes w32 n
  color_kept all none n =
      let m = packed n in
      ap (written_color b s) (sym (same_bytes n)) ∙ sym (on_packed m (packed_small n))
      ∙ ap (to_le_bytes w32) ((λ i. bit_xor (bit_and m (all i)) (none i)) ∙ xor_zero_r (bit_and m 4294967295) ∙ keeps_all m (packed_small n)) ∙ same_bytes n

-- ---- pixels of a block

-- where nothing is to be flipped a pixel stands for itself
pub stands_itself : (b : Block) (u v : ℕ) → stands_for 0 b u v ≡ pixel_at b u v
stands_itself b u v =
    let n = value_at b.colors (span_of u v) (u % 8) in
    ap (λ (c : List ℕ). record { rgba = c; ds = (pixel_at b u v).ds }) (ap (to_le_bytes w32) (xor_zero_r (packed n)) ∙ same_bytes n)

-- flipping is a write that keeps every bit
pub flip_written : (flip : ℕ) (b : Block) (u v : ℕ) → written (record { keep = 4294967295; flip = flip }) (pixel_at b u v) ≡ stands_for flip b u v
flip_written flip b u v =
    let m = packed (value_at b.colors (span_of u v) (u % 8)) in
    ap (λ (c : List ℕ). record { rgba = c; ds = (pixel_at b u v).ds }) (ap (λ n. to_le_bytes w32 (bit_xor n flip)) (keeps_all m (packed_small (value_at b.colors (span_of u v) (u % 8)))))
