-- From one place of a taker to the next: the lines between are others'.
use Rattle.std.proofs.Common.{◌≡◌, ◌∙◌, ap, sym, subst, refl, ℕ, zero, suc, ◌+◌, ◌-◌, ◌%◌, ◌==◌, ◌<◌, ◌≤◌, ⊎_elim, arith, Bool, true, false, true≢false, cond, List, [], ◌∷◌, ◌++◌, length, drop, map, set, append_assoc}
use Rattle.std.specs.Prelude.{slice_index_or}
use Rattle.std.proofs.lemmas.Bool.{cases_lt, eqb-true, eq-eqb}
use Rattle.std.proofs.lemmas.Bool.Decides.{nat_tests}
use Rattle.std.proofs.lemmas.List.{length-drop, length-map, get_or-map, get_or_default, drop_more, get_or-set_same, get_or-set_other}
use Rattle.scenetext.specs.Scene.{Actor, Immediate, Deferred, Line}
use Rattle.scenetext.specs.Spelling.{is_deferred}
use Rattle.recorders.specs.Apart.{line_at, a_line}
use Rattle.recorders.specs.Dealing.{taker_of, places_of, place_at, AreDealt}
use Rattle.recorders.proofs.RowLemmas.{pushed}

-- none of the lines from i to q is one of taker t
pub record IsFirst (ls : List Line) (t i q : ℕ) : Type 0 where
  pub start : i ≤ q
  pub within : q ≤ length ls
  pub others : (m : ℕ) → i ≤ m → m < q → (taker_of (line_at ls m).actor == t) ≡ false

-- p is the place of a line of taker t, and q that of its next, or the one behind all lines
pub record IsPlace (ls : List Line) (t p q : ℕ) : Type 0 where
  pub inside : p < length ls
  pub own : (taker_of (line_at ls p).actor == t) ≡ true
  pub next : IsFirst ls t (p + 1) q

module _ (ls : List Line) (t : ℕ) where
  abbrev at : ℕ → List Line → ℕ → ℕ
  at i xs n = slice_index_or (places_of t i xs) n (length ls)

  -- the first of these lines
  here : (i : ℕ) (l : Line) (xs : List Line) → drop i ls ≡ l ∷ xs → (i < length ls) × (line_at ls i ≡ l) × (drop (i + 1) ls ≡ xs)
  here i l xs is =
      let count = sym (length-drop i ls) ∙ ap length is in
      let low : i < length ls = omega (arith, count) in
      let split = sym (drop_more ls i a_line low) ∙ is in
      (low, ap (λ ys. slice_index_or ys 0 a_line) split, ap (λ ys. drop 1 ys) split)

  pub first : (xs : List Line) (i : ℕ) → drop i ls ≡ xs → i ≤ length ls → IsFirst ls t i (at i xs 0)
  first [] i is low =
      let count = sym (length-drop i ls) ∙ ap length is in
      record { start = low; within = omega arith; others = λ m p q. absurd (omega (arith, count, p, q)) }
  first (l ∷ xs) i is low =
      let h = here i l xs is in
      let inside = h.0 in
      by (taker_of l.actor == t) refl (first xs (i + 1) h.2 (omega (arith, inside)))
    where
      by : (b : Bool) → (taker_of l.actor == t) ≡ b → IsFirst ls t (i + 1) (at (i + 1) xs 0) → IsFirst ls t i (slice_index_or (cond b (i ∷ places_of t (i + 1) xs) (places_of t (i + 1) xs)) 0 (length ls))
      by true own rest = record { start = omega arith; within = low; others = λ m p q. absurd (omega (arith, p, q)) }
      by false other rest = record {
        start = omega (arith, rest.start);
        within = rest.within;
        others = λ m p q.
            ⊎_elim (λ more. rest.others m (omega (arith, more)) q)
            (λ none. let same : i ≡ m = omega (arith, p, none) in subst (λ j. (taker_of (line_at ls j).actor == t) ≡ false) same (ap (λ (x : Line). taker_of x.actor == t) (here i l xs is).1 ∙ other)) (cases_lt i m);
      }

  next : (xs : List Line) (i n : ℕ) → drop i ls ≡ xs → n < length (places_of t i xs) → IsPlace ls t (at i xs n) (at i xs (n + 1))
  next [] i n is low = absurd (omega (arith, low))
  next (l ∷ xs) i n is low =
      let h = here i l xs is in
      let inside = h.0 in
      by (taker_of l.actor == t) refl n low (first xs (i + 1) h.2 (omega (arith, inside))) (λ m few. next xs (i + 1) m h.2 few)
    where
      by : (b : Bool) → (taker_of l.actor == t) ≡ b → (m : ℕ) → m < length (cond b (i ∷ places_of t (i + 1) xs) (places_of t (i + 1) xs)) → IsFirst ls t (i + 1) (at (i + 1) xs 0)
          → ((k : ℕ) → k < length (places_of t (i + 1) xs) → IsPlace ls t (at (i + 1) xs k) (at (i + 1) xs (k + 1)))
          → IsPlace ls t (slice_index_or (cond b (i ∷ places_of t (i + 1) xs) (places_of t (i + 1) xs)) m (length ls)) (slice_index_or (cond b (i ∷ places_of t (i + 1) xs) (places_of t (i + 1) xs)) (m + 1) (length ls))
      by true own zero few behind rest = record {
        inside = (here i l xs is).0;
        own = ap (λ (x : Line). taker_of x.actor == t) (here i l xs is).1 ∙ own;
        next = behind;
      }
      by true own (suc m) few behind rest =
          let more : suc (m + 1) ≡ suc m + 1 = omega arith in
          subst (λ k. IsPlace ls t (at (i + 1) xs m) (slice_index_or (i ∷ places_of t (i + 1) xs) k (length ls))) more (rest m (omega (arith, few)))
      by false other m few behind rest = rest m few

pub next_place : (ls : List Line) (t n : ℕ) → n < length (places_of t 0 ls) → IsPlace ls t (place_at t ls n) (place_at t ls (n + 1))
next_place ls t n low = next ls t ls 0 n refl low

-- what each line of another keeps is kept up to there
pub kept_on : (P : ℕ → Type 0) (ls : List Line) (t i q : ℕ) → IsFirst ls t i q → ((m : ℕ) → m < length ls → (taker_of (line_at ls m).actor == t) ≡ false → P m → P (m + 1)) → P i → P q
kept_on P ls t i q first keeps h = let sum : i + (q - i) ≡ q = omega (arith, first.start) in subst P sum (on (q - i) (omega (arith, sum)))
  where
    on : (d : ℕ) → i + d ≤ q → P (i + d)
    on zero low = let none : i ≡ i + 0 = omega arith in subst P none h
    on (suc d) low =
        let more : i + d + 1 ≡ i + suc d = omega arith in
        subst P more (keeps (i + d) (omega (arith, low, first.within)) (first.others (i + d) (omega arith) (omega (arith, low))) (on d (omega (arith, low))))

-- a line of another recorder is none of context k
pub none_of : (k t : ℕ) (a : Actor) → k % 4 ≡ t → (taker_of a == t) ≡ false → is_deferred k a ≡ false
none_of k t Immediate same other = refl
none_of k t (Deferred j) same other = grind (arith, nat_tests)

-- ---- one line more

-- the rows of these places, where line i is one of taker k
dealt_more : (ls : List Line) (i k : ℕ) (rows : List (List ℕ)) → k < length rows → i < length ls → taker_of (line_at ls i).actor ≡ k
    → ((t : ℕ) → slice_index_or rows t [] ++ places_of t i (drop i ls) ≡ places_of t 0 ls)
    → (t : ℕ) → slice_index_or (set rows k (slice_index_or rows k [] ++ i ∷ [])) t [] ++ places_of t (i + 1) (drop (i + 1) ls) ≡ places_of t 0 ls
dealt_more ls i k rows low below is h t = by (k == t) refl (sym (ap (places_of t i) (drop_more ls i a_line below) ∙ ap (λ j. cond (j == t) (i ∷ rest) rest) is))
  where
    rest : List ℕ
    rest = places_of t (i + 1) (drop (i + 1) ls)

    new : List ℕ
    new = slice_index_or rows k [] ++ i ∷ []

    by : (b : Bool) → (k == t) ≡ b → cond (k == t) (i ∷ rest) rest ≡ places_of t i (drop i ls) → slice_index_or (set rows k new) t [] ++ rest ≡ places_of t 0 ls
    by true e before =
        let same : k ≡ t = eqb-true k t e in
        ap (λ xs. xs ++ rest) (ap (λ j. slice_index_or (set rows k new) j []) (sym same) ∙ get_or-set_same rows k new [] low) ∙ append_assoc (slice_index_or rows k []) (i ∷ []) rest
        ∙ ap (λ j. slice_index_or rows j [] ++ i ∷ rest) same ∙ ap (λ xs. slice_index_or rows t [] ++ xs) (ap (λ b. cond b (i ∷ rest) rest) (sym e) ∙ before) ∙ h t
    by false e before =
        ap (λ xs. xs ++ rest) (get_or-set_other rows k t new [] (λ same. absurd (true≢false (sym (eq-eqb k t (sym same)) ∙ e))))
        ∙ ap (λ xs. slice_index_or rows t [] ++ xs) (ap (λ b. cond b (i ∷ rest) rest) (sym e) ∙ before) ∙ h t

-- onto a row of a vector of rows
pub dealt_next : {X : Type 0} (view : X → List ℕ) (xs : List X) (ls : List Line) (i k : ℕ) (old new : X) → k < length xs → old ≡ slice_index_or xs k old → view new ≡ view old ++ i ∷ [] → i < length ls → taker_of (line_at ls i).actor ≡ k
    → ((t : ℕ) → slice_index_or (map view xs) t [] ++ places_of t i (drop i ls) ≡ places_of t 0 ls)
    → (t : ℕ) → slice_index_or (map view (set xs k new)) t [] ++ places_of t (i + 1) (drop (i + 1) ls) ≡ places_of t 0 ls
dealt_next view xs ls i k old new low at more below is h t =
    ap (λ rows. slice_index_or rows t [] ++ places_of t (i + 1) (drop (i + 1) ls)) (pushed view xs k i old new low at more)
    ∙ dealt_more ls i k (map view xs) (subst (λ n. k < n) (sym (length-map xs view)) low) below is h t

-- ---- an element of a row of a vector of rows, as it is read

pub place_is : {X : Type 0} (view : X → List ℕ) (rows : List X) (ls : List Line) (t n : ℕ) (row : X) (slice : List ℕ) → AreDealt ls (map view rows) → t < 5 → row ≡ slice_index_or rows t row → slice ≡ view row → n < length (places_of t 0 ls) → (slice_index_or slice n 0 ≡ place_at t ls n) × (slice_index_or slice n 0 < length ls)
place_is view rows ls t n row slice dealt low at same few =
    let five = dealt.0 in
    let inside : t < length rows = omega (arith, five, length-map rows view, low) in
    let is = same ∙ ap view at ∙ sym (get_or-map view rows t row [] inside) ∙ dealt.1 t in
    let place = ap (λ xs. slice_index_or xs n 0) is ∙ get_or_default (places_of t 0 ls) n 0 (length ls) few in
    (place, subst (λ m. m < length ls) (sym place) (next_place ls t n few).inside)
