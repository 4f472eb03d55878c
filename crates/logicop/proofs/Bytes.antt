-- Bits of numbers that are made of bits or of bytes.
use Rattle.std.proofs.Common.{◌≡◌, ◌∙◌, ap, sym, arith, ℕ, zero, suc, ◌+◌, ◌-◌, ◌*◌, ◌/◌, ◌%◌, ◌^◌, ◌<◌, inl, inr, [], ◌∷◌}
use Rattle.std.proofs.Math.Nat.{pow-suc}
use Rattle.std.proofs.lemmas.Nat.{mul-le}
use Rattle.std.proofs.lemmas.Nat.Bits.{bit_at_cat_low, bit_at_cat_high}
use Rattle.std.specs.Int.{bit_at, from_le_bytes, w32}
use Rattle.gfxspec.proofs.Integers.{below_or_last}
use Rattle.gfxspec.specs.Color.{number_of_bits}

pub number_of_bits-lt : (n : ℕ) (bit : ℕ → ℕ) → ((k : ℕ) → bit k < 2) → number_of_bits n bit < 2 ^ n
number_of_bits-lt zero bit small = omega arith
number_of_bits-lt (suc n) bit small =
    let below = number_of_bits-lt n bit small in
    let b = small n in
    let product = mul-le (bit n) (2 ^ n) 1 (2 ^ n) (omega arith) (omega arith) in
    let double = pow-suc 2 n in
    omega arith

pub bit_at-number_of_bits : (n : ℕ) (bit : ℕ → ℕ) → ((k : ℕ) → bit k < 2) → (i : ℕ) → i < n → bit_at (number_of_bits n bit) i ≡ bit i
bit_at-number_of_bits zero bit small i h = absurd (omega arith)
bit_at-number_of_bits (suc n) bit small i h =
    let low = number_of_bits n bit in
    let swapped : low + bit n * 2 ^ n ≡ bit n * 2 ^ n + low = omega arith in
    ap (λ m. bit_at m i) swapped
    ∙ elim (below_or_last n i (omega arith)) [
      | inl below ↦ bit_at_cat_low (bit n) n low i below ∙ bit_at-number_of_bits n bit small i below
      | inr last ↦
          let b = small i in
          let at_zero : i - i ≡ 0 = omega arith in
          bit_at_cat_high (bit n) n low i (number_of_bits-lt n bit small) (omega arith)
          ∙ (λ j. bit_at (bit (sym last j)) (i - sym last j))
          ∙ ap (bit_at (bit i)) at_zero
          ∙ omega arith
    ]

-- the bits of a low byte and of what stands above it
low_bits : (high low k : ℕ) → k < 8 → bit_at (high * 256 + low) k ≡ bit_at low k
low_bits high low k h = bit_at_cat_low high 8 low k h

high_bits : (high low k : ℕ) → low < 256 → bit_at (high * 256 + low) (8 + k) ≡ bit_at high k
high_bits high low k small = bit_at_cat_high high 8 low (8 + k) small (omega arith) ∙ ap (bit_at high) (omega arith)

-- the bits of a byte of a number
pub bit_at-low_byte : (n k : ℕ) → k < 8 → bit_at (n % 256) k ≡ bit_at n k
bit_at-low_byte n k h =
    let split : n / 256 * 256 + n % 256 ≡ n = omega arith in
    sym (low_bits (n / 256) (n % 256) k h) ∙ ap (λ m. bit_at m k) split

pub bit_at-above_byte : (n k : ℕ) → bit_at (n / 256) k ≡ bit_at n (8 + k)
bit_at-above_byte n k =
    let split : n / 256 * 256 + n % 256 ≡ n = omega arith in
    sym (high_bits (n / 256) (n % 256) k (omega arith)) ∙ ap (λ m. bit_at m (8 + k)) split

pub bit_at-byte : (n k : ℕ) → k < 8 → (bit_at (n % 256) k ≡ bit_at n k) × (bit_at (n / 256 % 256) k ≡ bit_at n (8 + k)) × (bit_at (n / 65536 % 256) k ≡ bit_at n (16 + k)) × (bit_at (n / 16777216 % 256) k ≡ bit_at n (24 + k))
bit_at-byte n k h =
    let second : n / 65536 ≡ n / 256 / 256 = omega arith in
    let third : n / 16777216 ≡ n / 256 / 256 / 256 = omega arith in (
      bit_at-low_byte n k h,
      bit_at-low_byte (n / 256) k h ∙ bit_at-above_byte n k,
      ap (λ m. bit_at (m % 256) k) second ∙ bit_at-low_byte _ k h ∙ bit_at-above_byte (n / 256) k ∙ bit_at-above_byte n (8 + k) ∙ ap (bit_at n) (omega arith),
      ap (λ m. bit_at (m % 256) k) third ∙ bit_at-low_byte _ k h ∙ bit_at-above_byte (n / 256 / 256) k ∙ bit_at-above_byte (n / 256) (8 + k) ∙ bit_at-above_byte n (8 + (8 + k)) ∙ ap (bit_at n) (omega arith),
    )

-- a number that is made of four bytes
pub bit_at-word : (a b c d k : ℕ) → a < 256 → b < 256 → c < 256 → d < 256 → k < 8 → let n = from_le_bytes w32 (a ∷ b ∷ c ∷ d ∷ []) in
    (bit_at n k ≡ bit_at a k) × (bit_at n (8 + k) ≡ bit_at b k) × (bit_at n (16 + k) ≡ bit_at c k) × (bit_at n (24 + k) ≡ bit_at d k)
bit_at-word a b c d k a8 b8 c8 d8 h =
    let n = a + b * 256 + c * 65536 + d * 16777216 in
    let cd = d * 256 + c in
    let bcd = cd * 256 + b in
    let split : n ≡ bcd * 256 + a = omega arith in
    let at = λ (i : ℕ). ap (λ m. bit_at m i) split in
    let second = λ (i : ℕ). at (8 + i) ∙ high_bits bcd a i a8 in
    let third = λ (i : ℕ). second (8 + i) ∙ high_bits cd b i b8 in
    let fourth = λ (i : ℕ). third (8 + i) ∙ high_bits d c i c8 in (
      at k ∙ low_bits bcd a k h,
      second k ∙ low_bits cd b k h,
      ap (bit_at n) (omega arith) ∙ third k ∙ low_bits d c k h,
      ap (bit_at n) (omega arith) ∙ fourth k,
    )
