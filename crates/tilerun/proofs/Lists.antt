-- Places of lists, and lists without an element twice.
use Rattle.std.proofs.Common.{◌≡◌, ◌≢◌, ◌∙◌, sym, ap, refl, subst, ⊎_elim, arith, zero, suc, ℕ, ◌<◌, ◌⊎◌, inl, inr, List, [], ◌∷◌, ◌++◌, length, take, get_or}
use Rattle.std.proofs.lemmas.Bool.{cases_eq}
use Rattle.std.proofs.lemmas.List.{get_or-take, length-take-le, get_or_default}
use Rattle.std.specs.List.{Contains, AllZip}
use mathlib.Core.Option.{some, some-injective, some-ne-none}
use lib.ListN.{get_elem?}
use Rattle.tilecore.specs.Schedule.{total}
use Rattle.tilecore.proofs.Lists.{within}

pub not_past : {A : Type 0} (xs ys : List A) (i : ℕ) (a : A) → get_elem? (xs ++ ys) i ≡ some a → i < length xs → get_elem? xs i ≡ some a
not_past [] ys i a e h = absurd (omega arith)
not_past (x ∷ xs) ys zero a e h = e
not_past (x ∷ xs) ys (suc i) a e h = not_past xs ys i a e (omega arith)

pub read_at : {A : Type 0} (xs : List A) (i : ℕ) (a d : A) → get_elem? xs i ≡ some a → get_or xs i d ≡ a
read_at [] i a d e = absurd (some-ne-none a (sym e))
read_at (x ∷ xs) zero a d e = some-injective x a e
read_at (x ∷ xs) (suc i) a d e = read_at xs i a d e

pub there : {A : Type 0} (xs : List A) (i : ℕ) → i < length xs → (a : A) × (get_elem? xs i ≡ some a)
there [] i h = absurd (omega arith)
there (x ∷ xs) zero h = (x, refl)
there (x ∷ xs) (suc i) h = there xs i (omega arith)

pub contains_at : (xs : List ℕ) (i x : ℕ) → get_elem? xs i ≡ some x → Contains xs x
contains_at xs i x e = (i, within xs i x e, read_at xs i x x e)

pub place_of : (xs : List ℕ) (x : ℕ) → Contains xs x → (i : ℕ) × (get_elem? xs i ≡ some x)
place_of xs x c = let a = there xs c.0 c.1 in (c.0, a.1 ∙ ap some (sym (read_at xs c.0 a.0 x a.1) ∙ c.2))

pub is_among : (xs : List ℕ) (x : ℕ) → Contains xs x ⊎ (¬ Contains xs x)
is_among [] x = inr (λ c. let less = c.1 in omega arith)
is_among (y ∷ ys) x = ⊎_elim
    (λ (e : y ≡ x). inl (0, omega arith, e))
    (λ (ne : y ≢ x). ⊎_elim
    (λ (c : Contains ys x). inl (suc c.0, (let less = c.1 in omega arith), c.2))
    (λ (out : ¬ Contains ys x). inr (λ c. go c.0 c.1 c.2 ne out))
    (is_among ys x))
    (cases_eq y x)
  where
    go : (k : ℕ) → k < length (y ∷ ys) → get_or (y ∷ ys) k x ≡ x → y ≢ x → ¬ Contains ys x → ⊥
    go zero less e ne out = ne e
    go (suc k) less e ne out = out (k, omega arith, e)

-- where no element stands twice, one that comes next is not among those before it
pub not_before : (xs : List ℕ) (n x : ℕ) → ((p q : ℕ) → p < length xs → q < length xs → get_or xs p 0 ≡ get_or xs q 0 → p ≡ q) → get_elem? xs n ≡ some x → ¬ Contains (take n xs) x
not_before xs n x once e c =
    let less : n < length xs = within xs n x e in
    let short : length (take n xs) ≡ n = length-take-le n xs (omega arith) in
    let before : c.0 < n = (let a = c.1 in omega arith) in
    let same : get_or xs c.0 0 ≡ get_or xs n 0 = get_or_default xs c.0 0 x (omega arith) ∙ (sym (get_or-take n xs c.0 x before) ∙ c.2) ∙ sym (read_at xs n x 0 e) in
    let q : c.0 ≡ n = once c.0 n (omega arith) less same in
    omega arith

-- what holds of the pair at a place
pub zip_at : {A B : Type 0} (R : A → B → Type 0) (xs : List A) (ys : List B) (i : ℕ) (b : B) → AllZip R xs ys → get_elem? ys i ≡ some b → (a : A) × (get_elem? xs i ≡ some a) × R a b
zip_at R [] [] i b h e = absurd (some-ne-none b (sym e))
zip_at R [] (y ∷ ys) i b h e = absurd h
zip_at R (x ∷ xs) [] i b h e = absurd h
zip_at R (x ∷ xs) (y ∷ ys) zero b h e = (x, refl, subst (R x) (some-injective y b e) h.0)
zip_at R (x ∷ xs) (y ∷ ys) (suc i) b h e = zip_at R xs ys i b h.1 e

pub zip_from : {A B : Type 0} (R : A → B → Type 0) (xs : List A) (ys : List B) (i : ℕ) (a : A) → AllZip R xs ys → get_elem? xs i ≡ some a → (b : B) × (get_elem? ys i ≡ some b) × R a b
zip_from R [] [] i a h e = absurd (some-ne-none a (sym e))
zip_from R [] (y ∷ ys) i a h e = absurd h
zip_from R (x ∷ xs) [] i a h e = absurd h
zip_from R (x ∷ xs) (y ∷ ys) zero a h e = (y, refl, subst (λ (z : _). R z y) (some-injective x a e) h.0)
zip_from R (x ∷ xs) (y ∷ ys) (suc i) a h e = zip_from R xs ys i a h.1 e

pub zip_long : {A B : Type 0} (R : A → B → Type 0) (xs : List A) (ys : List B) → AllZip R xs ys → length ys ≡ length xs
zip_long R [] [] h = refl
zip_long R [] (y ∷ ys) h = absurd h
zip_long R (x ∷ xs) [] h = absurd h
zip_long R (x ∷ xs) (y ∷ ys) h = omega (arith, zip_long R xs ys h.1)

-- two lists whose elements at the same places count the same
pub total_alike : {A B : Type 0} (f : A → ℕ) (g : B → ℕ) (xs : List A) (ys : List B) → length xs ≡ length ys → ((p : ℕ) (a : A) (b : B) → get_elem? xs p ≡ some a → get_elem? ys p ≡ some b → f a ≡ g b) → total f xs ≡ total g ys
total_alike f g [] [] e h = refl
total_alike f g [] (y ∷ ys) e h = absurd (omega arith)
total_alike f g (x ∷ xs) [] e h = absurd (omega arith)
total_alike f g (x ∷ xs) (y ∷ ys) e h = let a : f x ≡ g y = h zero x y refl refl in
    omega (arith, total_alike f g xs ys (omega arith) (λ p a b s t. h (suc p) a b s t))

pub take_next : {A : Type 0} (xs : List A) (n : ℕ) (a : A) → get_elem? xs n ≡ some a → take (suc n) xs ≡ take n xs ++ a ∷ []
take_next [] n a e = absurd (some-ne-none a (sym e))
take_next (x ∷ xs) zero a e = λ k. some-injective x a e k ∷ []
take_next (x ∷ xs) (suc n) a e = λ k. x ∷ take_next xs n a e k

-- what a loop over a list reads at n
pub listed_at : (xs ys : List ℕ) (n : ℕ) → xs ≡ ys → n < length xs → get_elem? ys n ≡ some (get_or xs n 0)
listed_at xs ys n e less = let a = there xs n less in subst (λ (zs : List ℕ). get_elem? zs n ≡ some (get_or xs n 0)) e (a.1 ∙ ap some (sym (read_at xs n a.0 0 a.1)))
