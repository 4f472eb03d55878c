-- A set of channels and its number tell the same.
use Rattle.std.specs.Prelude.{ℕ, ◌+◌, ◌*◌, ◌≤◌, ◌≡◌, ◌==◌, ◌&&◌, Bool, true, false, refl}
use Rattle.std.proofs.Common.{◌∙◌, ap, arith, lit≤}
use Rattle.std.proofs.lemmas.Bool.Decides.{nat_tests}
use Rattle.std.specs.Bool.{beq}
use Rattle.std.specs.Int.{bit_at}
use Rattle.states.specs.declared.color_mask.ColorMask.{ColorMask}
use Rattle.states.specs.ColorMask.{flag_bit, mask_bits, mask_of}

pub flag_bit-le : (b : Bool) → flag_bit b ≤ 1
flag_bit-le true = lit≤ tt
flag_bit-le false = lit≤ tt

pub flag_bit-is_one : (b : Bool) → (flag_bit b == 1) ≡ b
flag_bit-is_one true = refl
flag_bit-is_one false = refl

bits_by_place : (r g b a : ℕ) → r ≤ 1 → g ≤ 1 → b ≤ 1 → a ≤ 1 → let n = r + 2 * g + 4 * b + 8 * a in
    (bit_at n 0 ≡ r) × (bit_at n 1 ≡ g) × (bit_at n 2 ≡ b) × (bit_at n 3 ≡ a)
bits_by_place r g b a r1 g1 b1 a1 = (omega arith, omega arith, omega arith, omega arith)

-- bit i of a set's number is flag i
pub bit_at-mask_bits : (m : ColorMask) → let n = mask_bits m in
    (bit_at n 0 ≡ flag_bit m.red) × (bit_at n 1 ≡ flag_bit m.green) × (bit_at n 2 ≡ flag_bit m.blue) × (bit_at n 3 ≡ flag_bit m.alpha)
bit_at-mask_bits m = bits_by_place _ _ _ _ (flag_bit-le m.red) (flag_bit-le m.green) (flag_bit-le m.blue) (flag_bit-le m.alpha)

set_by : (n : ℕ) (b : Bool) → n ≡ flag_bit b → (n == 1) ≡ b
set_by n b e = ap (λ k. k == 1) e ∙ flag_bit-is_one b

-- the flags that a set's number gives
pub red_flag : (m : ColorMask) → (bit_at (mask_bits m) 0 == 1) ≡ m.red
red_flag m = set_by _ m.red (bit_at-mask_bits m).0

pub green_flag : (m : ColorMask) → (bit_at (mask_bits m) 1 == 1) ≡ m.green
green_flag m = set_by _ m.green (bit_at-mask_bits m).1

pub blue_flag : (m : ColorMask) → (bit_at (mask_bits m) 2 == 1) ≡ m.blue
blue_flag m = set_by _ m.blue (bit_at-mask_bits m).2

pub alpha_flag : (m : ColorMask) → (bit_at (mask_bits m) 3 == 1) ≡ m.alpha
alpha_flag m = set_by _ m.alpha (bit_at-mask_bits m).3

pub mask_of-mask_bits : (m : ColorMask) → mask_of (mask_bits m) ≡ m
mask_of-mask_bits m i = record { red = red_flag m i; green = green_flag m i; blue = blue_flag m i; alpha = alpha_flag m i }

-- a flag below the others
unfoldable pub pack : Bool → ℕ → ℕ
pack b n = n * 2 + flag_bit b

same_last : (p q : Bool) → beq p q ≡ (flag_bit p == flag_bit q)
same_last true true = refl
same_last true false = refl
same_last false true = refl
same_last false false = refl

same_packed : (p q : Bool) (m n : ℕ) → (beq p q && (m == n)) ≡ (pack p m == pack q n)
unfolding pack
same_packed true true m n = grind (arith, nat_tests)
same_packed true false m n = grind (arith, nat_tests)
same_packed false true m n = grind (arith, nat_tests)
same_packed false false m n = grind (arith, nat_tests)

pub packed : (m : ColorMask) → pack m.red (pack m.green (pack m.blue (flag_bit m.alpha))) ≡ mask_bits m
unfolding pack
packed m = omega arith

-- equal flags are equal numbers
pub same_flags : (a b : ColorMask) → (beq a.red b.red && (beq a.green b.green && (beq a.blue b.blue && beq a.alpha b.alpha))) ≡ (mask_bits a == mask_bits b)
same_flags a b =
    ap (λ t. beq a.red b.red && (beq a.green b.green && (beq a.blue b.blue && t))) (same_last a.alpha b.alpha)
    ∙ ap (λ t. beq a.red b.red && (beq a.green b.green && t)) (same_packed a.blue b.blue _ _)
    ∙ ap (λ t. beq a.red b.red && t) (same_packed a.green b.green _ _)
    ∙ same_packed a.red b.red _ _
    ∙ (λ i. packed a i == packed b i)
