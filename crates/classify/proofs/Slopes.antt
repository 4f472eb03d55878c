-- A value that changes by one step from place to place is greatest and least at an end.
use Rattle.std.proofs.Common.{◌≡◌, subst, arith, ℕ, zero, suc, ◌+◌, ◌-◌, ◌<◌, ◌≤◌, add-zero}
use Rattle.std.specs.Prelude.{ℤ, pos, ◌+ℤ◌, ◌≤ℤ◌, ◌<ℤ◌}
use Rattle.std.proofs.lemmas.Int.{ints, by_lt_z}

module _ (f : ℕ → ℤ) (s : ℤ) (step : (x : ℕ) → f (x + 1) ≡ f x +ℤ s) where
  rise : pos 0 ≤ℤ s → (x n : ℕ) → f x ≤ℤ f (x + n)
  rise h x zero = rw (add-zero x) (omega (arith, ints))
  rise h x (suc n) =
      let r = rise h x n in
      let e = step (x + n) in
      let k : x + suc n ≡ x + n + 1 = omega arith in
      rw (k, e) (omega (arith, ints, r))

  fall : s <ℤ pos 0 → (x n : ℕ) → f (x + n) ≤ℤ f x
  fall h x zero = rw (add-zero x) (omega (arith, ints))
  fall h x (suc n) =
      let r = fall h x n in
      let e = step (x + n) in
      let k : x + suc n ≡ x + n + 1 = omega arith in
      rw (k, e) (omega (arith, ints, r))

  pub rise_to : pos 0 ≤ℤ s → (x y : ℕ) → x ≤ y → f x ≤ℤ f y
  rise_to h x y l = let k : x + (y - x) ≡ y = omega arith in subst (λ z. f x ≤ℤ f z) k (rise h x (y - x))

  pub fall_to : s <ℤ pos 0 → (x y : ℕ) → x ≤ y → f y ≤ℤ f x
  fall_to h x y l = let k : x + (y - x) ≡ y = omega arith in subst (λ z. f z ≤ℤ f x) k (fall h x (y - x))

  pub at_greatest : (low high at : ℕ) → (s <ℤ pos 0 → at ≡ low) → (pos 0 ≤ℤ s → at + 1 ≡ high) → (x : ℕ) → low ≤ x → x < high → f x ≤ℤ f at
  at_greatest low high at p q x l h =
      by_lt_z s (pos 0) (λ d. let e = p d in fall_to d at x (omega arith)) (λ d. let e = q d in rise_to d x at (omega arith))

  pub at_least : (low high at : ℕ) → (s <ℤ pos 0 → at + 1 ≡ high) → (pos 0 ≤ℤ s → at ≡ low) → (x : ℕ) → low ≤ x → x < high → f at ≤ℤ f x
  at_least low high at p q x l h =
      by_lt_z s (pos 0) (λ d. let e = p d in fall_to d x at (omega arith)) (λ d. let e = q d in rise_to d at x (omega arith))
