-- Lemmas on lists of lists.
use Rattle.std.proofs.Common.{◌≡◌, ℕ, ◌+◌, ◌<◌, ◌≤◌, List, [], ◌∷◌, ◌++◌, map, set, length, get_or, drop, replicate, zero, suc, refl, ap, sym, ◌∙◌, arith}
use Rattle.std.specs.Prelude.{sum, sum_by, Bool, true, false, if◌then◌else◌}
use Rattle.std.proofs.lemmas.List.Sums.{sum-map, sum_by-set}
use Rattle.std.proofs.lemmas.List.{length-append, length-set}

-- one turn of a loop that empties the lists from the front
pub empty_more : {A : Type 0} (xs : List A) (i : ℕ) (e : A) → i < length xs
    → set (replicate i e ++ drop i xs) i e ≡ replicate (i + 1) e ++ drop (i + 1) xs
empty_more [] i e inside = absurd (omega (arith, inside))
empty_more (x ∷ xs) zero e inside = refl
empty_more (x ∷ xs) (suc i) e inside = let more = empty_more xs i e (omega (arith, inside)) in grind (arith, more)

-- ---- lists that are emptied tile by tile

pub past : (xs : List (List ℕ)) (k : ℕ) → length xs ≤ k → get_or xs k [] ≡ []
past [] k h = refl
past (x ∷ xs) zero h = absurd (omega (arith, h))
past (x ∷ xs) (suc k) h = past xs k (omega (arith, h))

-- lists without a word are as many empty lists
pub all_empty : (xs : List (List ℕ)) → ((k : ℕ) → get_or xs k [] ≡ []) → xs ≡ replicate (length xs) []
all_empty [] h = refl
all_empty (x ∷ xs) h = rw (h 0, ← all_empty xs (λ k. h (suc k))) refl

-- one word more
pub count-push : (xs : List (List ℕ)) (i w : ℕ) → i < length xs → sum (map length (set xs i (get_or xs i [] ++ w ∷ []))) ≡ sum (map length xs) + 1
count-push xs i w h =
    sum-map length (set xs i (get_or xs i [] ++ w ∷ []))
    ∙ one _ _ _ _ (sum_by-set length xs i (get_or xs i [] ++ w ∷ []) [] h) (length-append (get_or xs i []) (w ∷ []))
    ∙ ap (λ n. n + 1) (sym (sum-map length xs))
  where
    one : (a b c d : ℕ) → a + c ≡ b + d → d ≡ c + 1 → a ≡ b + 1
    one a b c d p q = omega arith

-- what a push may add
pub pushed : (xs ys : List (List ℕ)) (i w : ℕ) (b : Bool) → i < length xs → ys ≡ (if b then set xs i (get_or xs i [] ++ w ∷ []) else xs) → (length ys ≡ length xs) × (sum (map length ys) ≤ sum (map length xs) + 1)
pushed xs ys i w true h e = (ap length e ∙ length-set xs i _, let k = ap (λ (l : List (List ℕ)). sum (map length l)) e ∙ count-push xs i w h in omega (arith, k))
pushed xs ys i w false h e = (ap length e, let k = ap (λ (l : List (List ℕ)). sum (map length l)) e in omega (arith, k))

-- empty lists have no words
no_counts : (n : ℕ) → sum_by length (replicate {A = List ℕ} n []) ≡ 0
no_counts zero = refl
no_counts (suc n) = no_counts n

pub count_none : (n : ℕ) → sum (map length (replicate {A = List ℕ} n [])) ≡ 0
count_none n = sum-map length (replicate {A = List ℕ} n []) ∙ no_counts n

-- an emptied list leaves no more words
pub cut_fewer : (xs ys : List (List ℕ)) (i : ℕ) → i < length xs → ys ≡ set xs i [] → sum (map length ys) ≤ sum (map length xs)
cut_fewer xs ys i inside e =
    let now = ap (λ (l : List (List ℕ)). sum (map length l)) e ∙ sum-map length (set xs i []) in
    let was = sum-map length xs in
    let rest = sum_by-set length xs i [] [] inside in
    fewer _ _ _ _ _ now was rest
  where
    fewer : (a b c d n : ℕ) → a ≡ b → c ≡ d → b + n ≡ d + 0 → a ≤ c
    fewer a b c d n p q r = omega arith
