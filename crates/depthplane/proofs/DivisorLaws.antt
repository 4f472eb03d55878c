-- A quotient by the inverse of its divisor.
use Rattle.std.proofs.Common.{◌≡◌, ◌∙◌, ap, sym, arith, ℕ, ◌+◌, ◌-◌, ◌*◌, ◌/◌, ◌%◌, ◌<◌, ◌≤◌}
use Rattle.std.specs.Prelude.{pos}
use Rattle.std.proofs.lemmas.Int.{ints}
use Rattle.std.proofs.lemmas.Nat.{div-add-mod', mod_below, div-mul-add, mod-mul-add}
use Rattle.std.proofs.Math.Nat.{add-mul, mul-add, mul-le-mul_left, mul-le-mul_right, mul_right_comm}
use Rattle.depthplane.specs.Division.{IsDivisor}

mul_assoc : (a b c : ℕ) → a * b * c ≡ a * (b * c)
mul_assoc a b c = omega arith

-- the inverse leads to the quotient, or to the number below it
module _ (n d m : ℕ) (some : 0 < d) (few : n < 18446744073709551616) (is : m ≡ 18446744073709551615 / d) where
  abbrev guess : ℕ
  guess = n * m / 18446744073709551616

  guess_turned : guess * 18446744073709551616 * d ≡ guess * d * 18446744073709551616
  guess_turned = mul_right_comm guess 18446744073709551616 d

  inverse_low : m * d ≤ 18446744073709551615
  inverse_low = let z = div-add-mod' 18446744073709551615 d in let e = ap (λ k. k * d) is in omega (arith, z, e)

  inverse_high : 18446744073709551616 ≤ m * d + d
  inverse_high = let z = div-add-mod' 18446744073709551615 d in let l = mod_below 18446744073709551615 d some in let e = ap (λ k. k * d) is in omega (arith, z, l, e)

  pub guess_low : guess * d ≤ n
  guess_low =
      let z = div-add-mod' (n * m) 18446744073709551616 in
      let part : guess * 18446744073709551616 ≤ n * m = omega (arith, z) in
      let below = mul-le-mul_right d part in
      let most = mul-le-mul_left n inverse_low in
      let turned = guess_turned in
      let same = mul_assoc n m d in
      omega (arith, below, most, turned, same)

  pub guess_high : n < guess * d + d + d
  guess_high =
      let z = div-add-mod' (n * m) 18446744073709551616 in
      let l = mod_below (n * m) 18446744073709551616 (omega arith) in
      let part : n * m + 1 ≤ guess * 18446744073709551616 + 18446744073709551616 = omega (arith, z, l) in
      let above = mul-le-mul_right d part in
      let spread_low = add-mul (n * m) 1 d in
      let spread_high = add-mul (guess * 18446744073709551616) 18446744073709551616 d in
      let least = mul-le-mul_left n inverse_high in
      let spread_least = mul-add n (m * d) d in
      let turned = guess_turned in
      let same = mul_assoc n m d in
      let most = mul-le-mul_right d few in
      let spread_most = add-mul n 1 d in
      omega (arith, above, spread_low, spread_high, least, spread_least, turned, same, most, spread_most)

-- a quotient and a rest by what is left
pub exact_parts : (n d g : ℕ) → g * d ≤ n → n - g * d < d → (g ≡ n / d) × (n - g * d ≡ n % d)
exact_parts n d g low high =
    let is : g * d + (n - g * d) ≡ n = omega (arith, low) in
    (sym (div-mul-add g d (n - g * d) high) ∙ ap (λ k. k / d) is, sym (mod-mul-add g d (n - g * d) high) ∙ ap (λ k. k % d) is)

pub next_parts : (n d g : ℕ) → g * d ≤ n → d ≤ n - g * d → n < g * d + d + d → (g + 1 ≡ n / d) × (n - g * d - d ≡ n % d)
next_parts n d g low least high =
    let spread = add-mul g 1 d in
    let is : (g + 1) * d + (n - g * d - d) ≡ n = omega (arith, low, least, spread) in
    let small : n - g * d - d < d = omega (arith, low, least, high) in
    (sym (div-mul-add (g + 1) d (n - g * d - d) small) ∙ ap (λ k. k / d) is, sym (mod-mul-add (g + 1) d (n - g * d - d) small) ∙ ap (λ k. k % d) is)

pub some_divisor : (d : ℕ) → IsDivisor (pos d) → 0 < d
some_divisor d is = let p = is.positive in omega (arith, ints, p)
