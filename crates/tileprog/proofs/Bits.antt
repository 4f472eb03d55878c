-- Bits of masks.
use Rattle.std.proofs.Common.{◌≡◌, ◌∙◌, ap, arith, ℕ, ◌+◌, ◌-◌, ◌*◌, ◌%◌, ◌^◌, ◌<◌, ◌≤◌, ◌⊎◌, inl, inr, true, false, lit<, min}
use Rattle.std.specs.Prelude.{◌==◌, ◌&&◌, nat_lt, nat_le}
use Rattle.std.proofs.Math.Nat.{pow-le-pow_right}
use Rattle.std.proofs.lemmas.Bool.Decides.{nat_tests}
use Rattle.std.proofs.lemmas.Nat.Bits.{bit_at_mask_inside, bit_at_mask_below, bit_at_mask_above}
use Rattle.std.specs.Int.{bit_at}

-- powers up to 2 ^ 8, in the order of their exponents
pub powers : (from to : ℕ) → from ≤ to → to ≤ 8 → (2 ^ from ≤ 2 ^ to) × (2 ^ to ≤ 2 ^ 8)
powers from to h few = (pow-le-pow_right {n = 2} (lit< tt) h, pow-le-pow_right {n = 2} (lit< tt) few)

pub mask_is : (from to : ℕ) → from ≤ to → to ≤ 8 → 1 * 2 ^ to % 2 ^ 32 - 1 * 2 ^ from % 2 ^ 32 ≡ 2 ^ to - 2 ^ from
mask_is from to h few = let p = powers from to h few in let a = p.0 in let b = p.1 in omega arith

where_is : (from to j : ℕ) → ((from ≤ j) × (j < to)) ⊎ ((j < from) ⊎ (to ≤ j))
where_is from to j = grind arith

-- the bits from one on and before another
pub bits_between : (from to j : ℕ) → from ≤ to → to ≤ 8 → (bit_at (1 * 2 ^ to % 2 ^ 32 - 1 * 2 ^ from % 2 ^ 32) j == 1) ≡ (nat_le from j && nat_lt j to)
bits_between from to j h few =
    ap (λ n. bit_at n j == 1) (mask_is from to h few)
    ∙ elim (where_is from to j) [
      | inl within ↦ let low = within.0 in let high = within.1 in ap (λ n. n == 1) (bit_at_mask_inside from to j low high) ∙ yes low high
      | inr (inl below) ↦ ap (λ n. n == 1) (bit_at_mask_below from to j below) ∙ under below
      | inr (inr above) ↦ ap (λ n. n == 1) (bit_at_mask_above from to j above) ∙ over above
    ]
  where
    yes : from ≤ j → j < to → true ≡ (nat_le from j && nat_lt j to)
    yes a b = grind (arith, nat_tests)

    under : j < from → false ≡ (nat_le from j && nat_lt j to)
    under a = grind (arith, nat_tests)

    over : to ≤ j → false ≡ (nat_le from j && nat_lt j to)
    over a = grind (arith, nat_tests)

-- lanes of a span that begins at x, between two columns
pub lanes_between : (x left right j : ℕ) → left < right → left < x + 8 → x < right → j < 8 →
    (nat_le (left - x) j && nat_lt j (min (right - x) 8)) ≡ (nat_le left (x + j) && nat_lt (x + j) right)
lanes_between x left right j some begun ended h = grind (arith, nat_tests)
