-- A rest in 2^32nds of its divisor, rounded up, from two divisions that take half of the bits each.
use Rattle.std.proofs.Common.{◌≡◌, refl, sym, subst, arith, ℕ, ◌+◌, ◌*◌, ◌/◌, ◌%◌, ◌<◌, ◌≤◌}
use Rattle.std.specs.Prelude.{min}
use Rattle.std.proofs.lemmas.Grind.{div_ceil_times}
use Rattle.std.proofs.lemmas.Nat.{div_below, div-add-mod', mod_below}
use Rattle.std.proofs.Math.Nat.{add-mul, mul_right_comm}

-- a number divided, and the rest of it in 2^20ths divided and rounded up
module _ (r d c : ℕ) (some : 0 < d) (is : c ≡ r * 65536 % d * 65536 / d + min 1 (r * 65536 % d * 65536 % d)) where
  least : 4294967296 * r ≤ (r * 65536 / d * 65536 + c) * d
  least =
      let split = div-add-mod' (r * 65536) d in
      let both = add-mul (r * 65536 / d * 65536) c d in
      let turn = mul_right_comm (r * 65536 / d) 65536 d in
      let up : r * 65536 % d * 65536 ≤ c * d = rw is (div_ceil_times (r * 65536 % d * 65536) d some).0 in
      omega (arith, split, both, turn, up)

  most : (r * 65536 / d * 65536 + c) * d < 4294967296 * r + d
  most =
      let split = div-add-mod' (r * 65536) d in
      let both = add-mul (r * 65536 / d * 65536) c d in
      let turn = mul_right_comm (r * 65536 / d) 65536 d in
      let down : c * d < r * 65536 % d * 65536 + d = rw is (div_ceil_times (r * 65536 % d * 65536) d some).1 in
      omega (arith, split, both, turn, down)

-- the same, by the quotients and rests of both divisions
module _ (r d high left low last : ℕ) (small : r < d) (high_is : high ≡ r * 65536 / d) (left_is : left ≡ r * 65536 % d) (low_is : low ≡ left * 65536 / d) (last_is : last ≡ left * 65536 % d) where
  some : 0 < d
  some = omega (arith, small)

  pub high_small : high < 65536
  high_small = rw high_is (div_below (r * 65536) d 65536 some (omega (arith, small)))

  pub low_small : low < 65536
  low_small =
      let l = mod_below (r * 65536) d some in
      rw low_is (div_below (left * 65536) d 65536 some (omega (arith, l, left_is)))

  fraction_is : high * 65536 + low + min last 1 ≡ r * 65536 / d * 65536 + (r * 65536 % d * 65536 / d + min 1 (r * 65536 % d * 65536 % d))
  fraction_is = rw (high_is, low_is, last_is, left_is) (omega arith)

  pub fraction_least : 4294967296 * r ≤ (high * 65536 + low + min last 1) * d
  fraction_least = subst (λ f. 4294967296 * r ≤ f * d) (sym fraction_is) (least r d (r * 65536 % d * 65536 / d + min 1 (r * 65536 % d * 65536 % d)) some refl)

  pub fraction_most : (high * 65536 + low + min last 1) * d < 4294967296 * r + d
  fraction_most = subst (λ f. f * d < 4294967296 * r + d) (sym fraction_is) (most r d (r * 65536 % d * 65536 / d + min 1 (r * 65536 % d * 65536 % d)) some refl)

-- and by those of one division of a small divisor
module _ (r d whole last : ℕ) (some : 0 < d) (whole_is : whole ≡ r * 4294967296 / d) (last_is : last ≡ r * 4294967296 % d) where
  whole_ceil : whole + min last 1 ≡ r * 4294967296 / d + min 1 (r * 4294967296 % d)
  whole_ceil = rw (whole_is, last_is) (omega arith)

  pub whole_least : 4294967296 * r ≤ (whole + min last 1) * d
  whole_least = let up = (div_ceil_times (r * 4294967296) d some).0 in subst (λ f. 4294967296 * r ≤ f * d) (sym whole_ceil) (omega (arith, up))

  pub whole_most : (whole + min last 1) * d < 4294967296 * r + d
  whole_most = let down = (div_ceil_times (r * 4294967296) d some).1 in subst (λ f. f * d < 4294967296 * r + d) (sym whole_ceil) (omega (arith, down))
