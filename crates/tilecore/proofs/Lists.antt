-- Lists of which one element changes, read by their places.
use Rattle.std.proofs.Common.{◌≡◌, ℕ, zero, suc, ◌<◌, ◌≢◌, ◌⊎◌, List, [], ◌∷◌, length, set, get_or, map, refl, sym, ap, inl, inr, ⊎_elim, arith}
use mathlib.Core.Option.{some, some-injective, some-ne-none}
use lib.ListN.{get_elem?}

module _ {A : Type 0} where
  pub at_set : (l : List A) (i j : ℕ) (a b : A) → get_elem? (set l i a) j ≡ some b → ((j ≡ i) × (a ≡ b)) ⊎ ((j ≢ i) × (get_elem? l j ≡ some b))
  at_set [] i j a b e = absurd (some-ne-none b (sym e))
  at_set (x ∷ xs) zero zero a b e = inl (refl, some-injective a b e)
  at_set (x ∷ xs) zero (suc j) a b e = inr ((λ h. omega arith), e)
  at_set (x ∷ xs) (suc i) zero a b e = inr ((λ h. omega arith), e)
  at_set (x ∷ xs) (suc i) (suc j) a b e = ⊎_elim (λ t. inl (ap suc t.0, t.1)) (λ t. let n = t.0 in inr ((λ h. n (omega arith)), t.1)) (at_set xs i j a b e)

  pub set_here : (l : List A) (i : ℕ) (a : A) → i < length l → get_elem? (set l i a) i ≡ some a
  set_here [] i a h = absurd (omega arith)
  set_here (x ∷ xs) zero a h = refl
  set_here (x ∷ xs) (suc i) a h = set_here xs i a (omega arith)

  pub set_else : (l : List A) (i j : ℕ) (a : A) → j ≢ i → get_elem? (set l i a) j ≡ get_elem? l j
  set_else [] i j a n = refl
  set_else (x ∷ xs) zero zero a n = absurd (n refl)
  set_else (x ∷ xs) zero (suc j) a n = refl
  set_else (x ∷ xs) (suc i) zero a n = refl
  set_else (x ∷ xs) (suc i) (suc j) a n = set_else xs i j a (λ e. n (ap suc e))

  -- what a map has at a place
  pub map_at : {B : Type 0} (f : A → B) (l : List A) (i : ℕ) (d : A) → i < length l → get_elem? (map f l) i ≡ some (f (get_or l i d))
  map_at f [] i d h = absurd (omega arith)
  map_at f (x ∷ xs) zero d h = refl
  map_at f (x ∷ xs) (suc i) d h = map_at f xs i d (omega arith)

  pub within : (xs : List A) (i : ℕ) (a : A) → get_elem? xs i ≡ some a → i < length xs
  within [] i a e = absurd (some-ne-none a (sym e))
  within (x ∷ xs) zero a e = omega arith
  within (x ∷ xs) (suc i) a e = omega (arith, within xs i a e)

  -- a place of a map is a place of the list
  pub map_within : {B : Type 0} (f : A → B) (l : List A) (i : ℕ) (b : B) → get_elem? (map f l) i ≡ some b → i < length l
  map_within f [] i b e = absurd (some-ne-none b (sym e))
  map_within f (x ∷ xs) zero b e = omega arith
  map_within f (x ∷ xs) (suc i) b e = omega (arith, map_within f xs i b e)

  pub length_map : {B : Type 0} (f : A → B) (l : List A) → length (map f l) ≡ length l
  length_map f [] = refl
  length_map f (x ∷ xs) = omega (arith, length_map f xs)
