-- Operations on the flags of two sets are those on the bits of their numbers.
use Rattle.std.proofs.Common.{◌≡◌, ◌∙◌, ap, sym, refl, arith, ℕ, ◌+◌, ◌*◌, ◌<◌, ◌^◌, lit<, bit_and, bit_or, Bool, true, false}
use Rattle.std.specs.Prelude.{◌&&◌, ◌||◌, not, bit_xor, nat_eq}
use Rattle.std.specs.Bool.{beq}
use Rattle.std.specs.Int.{bit_at}
use Rattle.std.proofs.lemmas.Nat.{and_block, or_block, xor_block}
use Rattle.std.proofs.lemmas.Nat.Bits.{and_pow, bit_at-lt}
use Rattle.std.proofs.lemmas.Bool.Decides.{nat_tests}
use Rattle.states.specs.ColorMask.{flag_bit, mask_bits}
use Rattle.states.specs.MaskLaws.{pack, packed}
use Rattle.states.specs.declared.color_mask.ColorMask.{ColorMask}

flag_lt : (b : Bool) → flag_bit b < 2 ^ 1
flag_lt true = lit< tt
flag_lt false = lit< tt

flag_and : (p q : Bool) → bit_and (flag_bit p) (flag_bit q) ≡ flag_bit (p && q)
flag_and true true = refl
flag_and true false = refl
flag_and false true = refl
flag_and false false = refl

flag_or : (p q : Bool) → bit_or (flag_bit p) (flag_bit q) ≡ flag_bit (p || q)
flag_or true true = refl
flag_or true false = refl
flag_or false true = refl
flag_or false false = refl

flag_xor : (p q : Bool) → bit_xor (flag_bit p) (flag_bit q) ≡ flag_bit (not (beq p q))
flag_xor true true = refl
flag_xor true false = refl
flag_xor false true = refl
flag_xor false false = refl

pack_and : (p q : Bool) (m n : ℕ) → bit_and (pack p m) (pack q n) ≡ pack (p && q) (bit_and m n)
unfolding pack
pack_and p q m n = and_block 1 m n (flag_bit p) (flag_bit q) (flag_lt p) (flag_lt q) ∙ ap (λ k. bit_and m n * 2 + k) (flag_and p q)

pack_or : (p q : Bool) (m n : ℕ) → bit_or (pack p m) (pack q n) ≡ pack (p || q) (bit_or m n)
unfolding pack
pack_or p q m n = or_block 1 m n (flag_bit p) (flag_bit q) (flag_lt p) (flag_lt q) ∙ ap (λ k. bit_or m n * 2 + k) (flag_or p q)

pack_xor : (p q : Bool) (m n : ℕ) → bit_xor (pack p m) (pack q n) ≡ pack (not (beq p q)) (bit_xor m n)
unfolding pack
pack_xor p q m n = xor_block 1 m n (flag_bit p) (flag_bit q) (flag_lt p) (flag_lt q) ∙ ap (λ k. bit_xor m n * 2 + k) (flag_xor p q)

pub mask_bits-and : (a b : ColorMask) → bit_and (mask_bits a) (mask_bits b) ≡ mask_bits (record { red = a.red && b.red; green = a.green && b.green; blue = a.blue && b.blue; alpha = a.alpha && b.alpha })
mask_bits-and a b =
    (λ i. bit_and (sym (packed a) i) (sym (packed b) i)) ∙ simp (pack_and, flag_and) refl ∙ packed _

pub mask_bits-or : (a b : ColorMask) → bit_or (mask_bits a) (mask_bits b) ≡ mask_bits (record { red = a.red || b.red; green = a.green || b.green; blue = a.blue || b.blue; alpha = a.alpha || b.alpha })
mask_bits-or a b =
    (λ i. bit_or (sym (packed a) i) (sym (packed b) i)) ∙ simp (pack_or, flag_or) refl ∙ packed _

pub mask_bits-xor : (a b : ColorMask) → bit_xor (mask_bits a) (mask_bits b) ≡ mask_bits (record { red = not (beq a.red b.red); green = not (beq a.green b.green); blue = not (beq a.blue b.blue); alpha = not (beq a.alpha b.alpha) })
mask_bits-xor a b =
    (λ i. bit_xor (sym (packed a) i) (sym (packed b) i)) ∙ simp (pack_xor, flag_xor) refl ∙ packed _

-- the test of one bit
tested_bit : (n k : ℕ) → flag_bit (not (nat_eq (bit_and n (2 ^ k)) 0)) ≡ bit_at n k
tested_bit n k = let e = and_pow n k in let below = bit_at-lt n k in grind (arith, nat_tests)

pub mask_bits-tested : (n : ℕ) → n < 16 → mask_bits (record { red = not (nat_eq (bit_and n 1) 0); green = not (nat_eq (bit_and n 2) 0); blue = not (nat_eq (bit_and n 4) 0); alpha = not (nat_eq (bit_and n 8) 0) }) ≡ n
mask_bits-tested n small =
    let r = tested_bit n 0 in
    let g = tested_bit n 1 in
    let b = tested_bit n 2 in
    let a = tested_bit n 3 in
    omega arith
