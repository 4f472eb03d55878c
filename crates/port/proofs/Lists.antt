-- Of lists, and of those of one port.
use Rattle.std.proofs.Common.{◌≡◌, ◌≢◌, ℕ, zero, suc, Bool, true, false, true≢false, ◌⊎◌, List, [], ◌∷◌, ◌++◌, length, set, sym, refl, ap, ◌∙◌, subst, ⊎_elim, inl, inr, arith, Option, Some, None}
use mathlib.Core.Option.{some, some-ne-none}
use mathlib.Core.Option.{some-injective}
use mathlib.Core.Path.{Path}
use lib.ListN.{get_elem?}
use lib.Dec.{eqb}
use native.Mathlib.Decide.{ℕ_discrete}
use Rattle.std.proofs.lemmas.Bool.{eq-eqb, ne_eqb}
use Rattle.std.proofs.lemmas.List.{append-nil, length-append, nil_from_length}
use Rattle.crossbeam_queue.proofs.Lists.{at_set}
use Rattle.port.specs.declared.submission.Submission.{Submission}
use Rattle.port.specs.History.{with_if, of_port}

-- what holds at p, and at each other number, holds at each
pub at_each : (F : ℕ → Type 0) (p : ℕ) → F p → ((q : ℕ) → q ≢ p → F q) → (q : ℕ) → F q
at_each F p here other q = go (ℕ_discrete q p)
  where
    go : Dec (q ≡ p) → F q
    go (yes e) = subst F (sym e) here
    go (no n) = other q n

abbrev value : Option ℕ → ℕ
value (Some n) = n
value None = 0

abbrev is_none : Option ℕ → Bool
is_none (Some n) = false
is_none None = true

pub same_some : (a b : ℕ) → Path (Option ℕ) (Some a) (Some b) → a ≡ b
same_some a b e = ap value e

pub none_some : (a : ℕ) → Path (Option ℕ) None (Some a) → ⊥
none_some a e = true≢false (ap is_none e)

module _ {A : Type 0} where
  pub at_new : (l : List A) (a b : A) (j : ℕ) → get_elem? (l ++ a ∷ []) j ≡ some b → (get_elem? l j ≡ some b) ⊎ ((j ≡ length l) × (a ≡ b))
  at_new [] a b zero e = inr (refl, some-injective a b e)
  at_new [] a b (suc j) e = absurd (some-ne-none b (sym e))
  at_new (x ∷ xs) a b zero e = inl e
  at_new (x ∷ xs) a b (suc j) e = ⊎_elim (λ p. inl p) (λ p. inr (ap suc p.0, p.1)) (at_new xs a b j e)

  pub at_middle : (l : List A) (a : A) (r : List A) → get_elem? (l ++ a ∷ r) (length l) ≡ some a
  at_middle [] a r = refl
  at_middle (x ∷ xs) a r = at_middle xs a r

  pub all_set : (F : ℕ → A → Type 0) (l : List A) (i : ℕ) (w : A) → F i w → ((j : ℕ) (u : A) → j ≢ i → get_elem? l j ≡ some u → F j u) → (j : ℕ) (u : A) → get_elem? (set l i w) j ≡ some u → F j u
  all_set F l i w mine others j u e = ⊎_elim (λ (x : (j ≡ i) × (w ≡ u)). subst (λ (y : ℕ × A). F y.0 y.1) (λ k. (sym x.0 k, x.1 k)) mine)
      (λ (x : (j ≢ i) × (get_elem? l j ≡ some u)). others j u x.0 x.1) (at_set l i j w u e)

module _ {L : Type 0} where
  with_if-append : (b : Bool) (x : Submission L) (xs ys : List (Submission L)) → with_if b x xs ++ ys ≡ with_if b x (xs ++ ys)
  with_if-append true x xs ys = refl
  with_if-append false x xs ys = refl

  pub of-append : (p : ℕ) (xs ys : List (Submission L)) → of_port p (xs ++ ys) ≡ of_port p xs ++ of_port p ys
  of-append p [] ys = refl
  of-append p (x ∷ xs) ys = ap (with_if (eqb x.port p) x) (of-append p xs ys) ∙ sym (with_if-append (eqb x.port p) x (of_port p xs) (of_port p ys))

  pub of-here : (p : ℕ) (x : Submission L) (xs : List (Submission L)) → x.port ≡ p → of_port p (x ∷ xs) ≡ x ∷ of_port p xs
  of-here p x xs e = ap (λ b. with_if b x (of_port p xs)) (eq-eqb x.port p e)

  pub of-apart : (p : ℕ) (x : Submission L) (xs : List (Submission L)) → x.port ≢ p → of_port p (x ∷ xs) ≡ of_port p xs
  of-apart p x xs n = ap (λ b. with_if b x (of_port p xs)) (ne_eqb x.port p n)

  -- one more at the end
  pub of-last : (p : ℕ) (xs : List (Submission L)) (x : Submission L) → x.port ≡ p → of_port p (xs ++ x ∷ []) ≡ of_port p xs ++ x ∷ []
  of-last p xs x e = of-append p xs (x ∷ []) ∙ ap (λ l. of_port p xs ++ l) (of-here p x [] e)

  pub of-other : (p : ℕ) (xs : List (Submission L)) (x : Submission L) → x.port ≢ p → of_port p (xs ++ x ∷ []) ≡ of_port p xs
  of-other p xs x n = of-append p xs (x ∷ []) ∙ (ap (λ l. of_port p xs ++ l) (of-apart p x [] n) ∙ append-nil (of_port p xs))

  -- as many were taken as were sent: so nothing is left, and what was taken is what was sent
  pub settled : (p : ℕ) (put taken items : List (Submission L)) → put ≡ of_port p taken ++ of_port p items → length put ≡ length (of_port p taken) → of_port p taken ≡ put
  settled p put taken items e same = let a = ap length e in let b = length-append (of_port p taken) (of_port p items) in
      sym (e ∙ (ap (λ l. of_port p taken ++ l) (nil_from_length (of_port p items) (omega arith)) ∙ append-nil (of_port p taken)))
