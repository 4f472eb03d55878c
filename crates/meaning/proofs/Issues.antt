-- Issues of commands one behind the other: their numbers, the last one of a query, and which are open.
use Rattle.std.proofs.Common.{◌≡◌, ◌∙◌, ap, sym, subst, refl, arith, ℕ, suc, ◌+◌, ◌<◌, ◌≤◌, Bool, true, false, ◌||◌, cond, List, [], ◌∷◌, ◌++◌, map, length, append_assoc}
use Rattle.std.specs.Prelude.{Option, Some, None, unwrap_or, filter, not, ◌==◌, slice_index_or}
use Rattle.std.specs.List.{list_any}
use Rattle.std.proofs.Math.Bool.{or-false}
use Rattle.std.proofs.Math.Seq.{get_or-append_seam}
use Rattle.std.proofs.lemmas.Bool.Decides.{nat_tests}
use Rattle.std.proofs.lemmas.List.{append-nil, length-append}
use Rattle.std.proofs.lemmas.List.Folds.{list_any-append}
use Rattle.std.proofs.lemmas.List.Elements.{filter_map-append}
use Rattle.gfxspec.specs.Commands.{Command, Begin, End}
use Rattle.gfxspec.specs.Recorded.{queries_open, query_begun, issues, ends, open_from, open_after, last_or}
use Rattle.gfxspec.specs.Session.{begun_from, last_of}
use Rattle.meaning.specs.OneMore.{open_with}
use Rattle.meaning.specs.Contexts.{last_begun}

from_start : (k : ℕ) → k ≡ k + 0
from_start k = omega arith

plus_one : (k m : ℕ) → k + 1 + m ≡ k + suc m
plus_one k m = omega arith

other_first : (k n : ℕ) → n + k + 1 ≡ n + (k + 1)
other_first k n = omega arith

pub issues-append : (cs ds : List Command) → length (issues (cs ++ ds)) ≡ length (issues cs) + length (issues ds)
issues-append cs ds = ap length (filter_map-append query_begun cs ds) ∙ length-append (issues cs) (issues ds)

-- commands that leave no query open don't change which ones later commands leave open
pub queries_open-behind : (begun cs : List Command) → queries_open begun ≡ [] → queries_open (begun ++ cs) ≡ queries_open cs
queries_open-behind [] cs h = refl
queries_open-behind (Begin q ∷ begun) cs h = chosen (list_any (ends q) begun) refl h (queries_open-behind begun cs)
  where
    chosen : (b : Bool) → list_any (ends q) begun ≡ b → cond b (queries_open begun) (q ∷ queries_open begun) ≡ [] → (queries_open begun ≡ [] → queries_open (begun ++ cs) ≡ queries_open cs) → cond (list_any (ends q) (begun ++ cs)) (queries_open (begun ++ cs)) (q ∷ queries_open (begun ++ cs)) ≡ queries_open cs
    chosen true e g more = ap (λ b. cond b (queries_open (begun ++ cs)) (q ∷ queries_open (begun ++ cs))) (list_any-append (ends q) begun cs ∙ ap (λ b. b || list_any (ends q) cs) e) ∙ more g
    chosen false e g more = absurd cc
queries_open-behind (c ∷ begun) cs h = queries_open-behind begun cs h

-- ---- the issues of a query

begun_from-append : (q k : ℕ) (cs ds : List Command) → begun_from q k (cs ++ ds) ≡ begun_from q k cs ++ begun_from q (k + length (issues cs)) ds
begun_from-append q k [] ds = ap (λ j. begun_from q j ds) (from_start k)
begun_from-append q k (Begin p ∷ cs) ds =
    chosen (p == q) (begun_from-append q (k + 1) cs ds ∙ ap (λ j. begun_from q (k + 1) cs ++ begun_from q j ds) (plus_one k (length (issues cs))))
  where
    chosen : (b : Bool) → begun_from q (k + 1) (cs ++ ds) ≡ begun_from q (k + 1) cs ++ begun_from q (k + suc (length (issues cs))) ds → cond b (k ∷ begun_from q (k + 1) (cs ++ ds)) (begun_from q (k + 1) (cs ++ ds)) ≡ cond b (k ∷ begun_from q (k + 1) cs) (begun_from q (k + 1) cs) ++ begun_from q (k + suc (length (issues cs))) ds
    chosen true e = ap (λ l. k ∷ l) e
    chosen false e = e
begun_from-append q k (c ∷ cs) ds = begun_from-append q k cs ds

-- counting from further on
begun_from-shift : (q n k : ℕ) (cs : List Command) → begun_from q (n + k) cs ≡ map (λ j. n + j) (begun_from q k cs)
begun_from-shift q n k [] = refl
begun_from-shift q n k (Begin p ∷ cs) = chosen (p == q) (ap (λ j. begun_from q j cs) (other_first k n) ∙ begun_from-shift q n (k + 1) cs)
  where
    chosen : (b : Bool) → begun_from q (n + k + 1) cs ≡ map (λ j. n + j) (begun_from q (k + 1) cs) → cond b ((n + k) ∷ begun_from q (n + k + 1) cs) (begun_from q (n + k + 1) cs) ≡ map (λ j. n + j) (cond b (k ∷ begun_from q (k + 1) cs) (begun_from q (k + 1) cs))
    chosen true e = ap (λ l. (n + k) ∷ l) e
    chosen false e = e
begun_from-shift q n k (c ∷ cs) = begun_from-shift q n k cs

-- the last issue, where a list begins some behind n others
abbrev pub last_behind : ℕ → Option ℕ → Option ℕ → Option ℕ
last_behind n before None = before
last_behind n before (Some k) = Some (n + k)

last_or-append : (d : ℕ) (xs : List ℕ) (z : ℕ) (zs : List ℕ) → last_or d (xs ++ z ∷ zs) ≡ last_or z zs
last_or-append d [] z zs = refl
last_or-append d (x ∷ xs) z zs = last_or-append x xs z zs

last_or-map : (n y : ℕ) (ys : List ℕ) → last_or (n + y) (map (λ j. n + j) ys) ≡ n + last_or y ys
last_or-map n y [] = refl
last_or-map n y (z ∷ ys) = last_or-map n z ys

last_of-cons : (xs : List ℕ) (z : ℕ) (zs : List ℕ) → last_of (xs ++ z ∷ zs) ≡ Some (last_or z zs)
last_of-cons [] z zs = refl
last_of-cons (x ∷ xs) z zs = ap (λ j. Some j) (last_or-append x xs z zs)

last_of-append : (n : ℕ) (xs ys : List ℕ) → last_of (xs ++ map (λ j. n + j) ys) ≡ last_behind n (last_of xs) (last_of ys)
last_of-append n xs [] = ap last_of (append-nil xs)
last_of-append n xs (y ∷ ys) = last_of-cons xs (n + y) (map (λ j. n + j) ys) ∙ ap (λ j. Some j) (last_or-map n y ys)

pub last_begun-append : (q : ℕ) (cs ds : List Command) → last_begun q (cs ++ ds) ≡ last_behind (length (issues cs)) (last_begun q cs) (last_begun q ds)
last_begun-append q cs ds =
    ap last_of (begun_from-append q 0 cs ds)
    ∙ ap (λ j. last_of (begun_from q 0 cs ++ begun_from q j ds)) (flip (length (issues cs)))
    ∙ ap (λ l. last_of (begun_from q 0 cs ++ l)) (begun_from-shift q (length (issues cs)) 0 ds)
    ∙ last_of-append (length (issues cs)) (begun_from q 0 cs) (begun_from q 0 ds)
  where
    flip : (m : ℕ) → 0 + m ≡ m + 0
    flip m = omega arith

abbrev Below : ℕ → List ℕ → Type 0
Below n [] = Unit {0}
Below n (k ∷ ks) = (k < n) × Below n ks

begun_below : (q k n : ℕ) (cs : List Command) → k + length (issues cs) ≤ n → Below n (begun_from q k cs)
begun_below q k n [] h = tt
begun_below q k n (Begin p ∷ cs) h = chosen (p == q) (begun_below q (k + 1) n cs (less (length (issues cs)) h))
  where
    less : (m : ℕ) → k + suc m ≤ n → k + 1 + m ≤ n
    less m g = omega arith

    here : (m : ℕ) → k + suc m ≤ n → k < n
    here m g = omega arith

    chosen : (b : Bool) → Below n (begun_from q (k + 1) cs) → Below n (cond b (k ∷ begun_from q (k + 1) cs) (begun_from q (k + 1) cs))
    chosen true g = (here (length (issues cs)) h, g)
    chosen false g = g
begun_below q k n (c ∷ cs) h = begun_below q k n cs h

last_below : (n k : ℕ) (ks : List ℕ) → k < n → Below n ks → last_or k ks < n
last_below n k [] l h = l
last_below n k (j ∷ ks) l h = last_below n j ks h.0 h.1

-- the last issue is one of those that were begun
pub last_begun_below : (q : ℕ) (cs : List Command) (j : ℕ) → last_begun q cs ≡ Some j → j < length (issues cs)
last_begun_below q cs j is = of (begun_from q 0 cs) (begun_below q 0 (length (issues cs)) cs (omega arith)) is
  where
    of : (ks : List ℕ) → Below (length (issues cs)) ks → last_of ks ≡ Some j → j < length (issues cs)
    of [] h e = absurd cc
    of (k ∷ ks) h e = subst (λ i. i < length (issues cs)) (ap (λ o. unwrap_or o 0) e) (last_below (length (issues cs)) k ks h.0 h.1)

-- ---- open issues

differ : (k issue : ℕ) → k < issue → (k == issue) ≡ false
differ k issue h = grind (arith, nat_tests)

-- none is open that wasn't begun
pub not_open : (issue k : ℕ) (cs : List Command) → k + length (issues cs) ≤ issue → list_any (λ j. j == issue) (open_from k cs) ≡ false
not_open issue k [] h = refl
not_open issue k (Begin q ∷ cs) h = chosen (list_any (ends q) cs) (not_open issue (k + 1) cs (less (length (issues cs)) h))
  where
    less : (m : ℕ) → k + suc m ≤ issue → k + 1 + m ≤ issue
    less m g = omega arith

    here : (m : ℕ) → k + suc m ≤ issue → k < issue
    here m g = omega arith

    both : {a b : Bool} → a ≡ false → b ≡ false → (a || b) ≡ false
    both p q = rw (p, q) refl

    chosen : (b : Bool) → list_any (λ j. j == issue) (open_from (k + 1) cs) ≡ false → list_any (λ j. j == issue) (cond b (open_from (k + 1) cs) (k ∷ open_from (k + 1) cs)) ≡ false
    chosen true g = g
    chosen false g = both (differ k issue (here (length (issues cs)) h)) g
not_open issue k (c ∷ cs) h = not_open issue k cs h

-- ---- one more command

begun-open : (k q : ℕ) (cs : List Command) → open_from k (cs ++ Begin q ∷ []) ≡ open_from k cs ++ (k + length (issues cs)) ∷ []
begun-open k q [] = ap (λ j. j ∷ []) (from_start k)
begun-open k q (Begin p ∷ cs) =
    ap (λ b. cond b (open_from (k + 1) (cs ++ Begin q ∷ [])) (k ∷ open_from (k + 1) (cs ++ Begin q ∷ []))) (list_any-append (ends p) cs (Begin q ∷ []) ∙ or-false (list_any (ends p) cs))
    ∙ chosen (list_any (ends p) cs) (begun-open (k + 1) q cs ∙ ap (λ j. open_from (k + 1) cs ++ j ∷ []) (plus_one k (length (issues cs))))
  where
    chosen : (b : Bool) → open_from (k + 1) (cs ++ Begin q ∷ []) ≡ open_from (k + 1) cs ++ (k + suc (length (issues cs))) ∷ [] → cond b (open_from (k + 1) (cs ++ Begin q ∷ [])) (k ∷ open_from (k + 1) (cs ++ Begin q ∷ [])) ≡ cond b (open_from (k + 1) cs) (k ∷ open_from (k + 1) cs) ++ (k + suc (length (issues cs))) ∷ []
    chosen true e = e
    chosen false e = ap (λ l. k ∷ l) e
begun-open k q (c ∷ cs) = begun-open k q cs

-- the open issues whose query isn't q; `begun` has the query of each
abbrev but : ℕ → List ℕ → List ℕ → List ℕ
but q begun open_issues = filter (λ k. not (q == slice_index_or begun k 0)) open_issues

next_length : (p : List ℕ) (r : ℕ) → length (p ++ r ∷ []) ≡ length p + 1
next_length p r = length-append p (r ∷ [])

ended-open : (q : ℕ) (p : List ℕ) (cs : List Command) → open_from (length p) (cs ++ End q ∷ []) ≡ but q (p ++ issues cs) (open_from (length p) cs)
ended-open q p [] = refl
ended-open q p (Begin r ∷ cs) =
    let k = length p in
    ap (λ b. cond b (open_from (k + 1) (cs ++ End q ∷ [])) (k ∷ open_from (k + 1) (cs ++ End q ∷ []))) (list_any-append (ends r) cs (End q ∷ []))
    ∙ chosen (list_any (ends r) cs) (q == r) refl
    (ap (λ j. open_from j (cs ++ End q ∷ [])) (sym (next_length p r))
    ∙ ended-open q (p ++ r ∷ []) cs
    ∙ ap (λ b. but q b (open_from (length (p ++ r ∷ [])) cs)) (append_assoc p (r ∷ []) (issues cs))
    ∙ ap (λ j. but q (p ++ r ∷ issues cs) (open_from j cs)) (next_length p r))
  where
    itself : slice_index_or (p ++ r ∷ issues cs) (length p) 0 ≡ r
    itself = get_or-append_seam p r (issues cs) 0

    one : (e : Bool) (k : ℕ) (l : List ℕ) → (q == slice_index_or (p ++ r ∷ issues cs) k 0) ≡ e → but q (p ++ r ∷ issues cs) (k ∷ l) ≡ cond e (but q (p ++ r ∷ issues cs) l) (k ∷ but q (p ++ r ∷ issues cs) l)
    one true k l is = rw is refl
    one false k l is = rw is refl

    chosen : (b e : Bool) → (q == r) ≡ e → open_from (length p + 1) (cs ++ End q ∷ []) ≡ but q (p ++ r ∷ issues cs) (open_from (length p + 1) cs) → cond (b || (e || false)) (open_from (length p + 1) (cs ++ End q ∷ [])) (length p ∷ open_from (length p + 1) (cs ++ End q ∷ [])) ≡ but q (p ++ r ∷ issues cs) (cond b (open_from (length p + 1) cs) (length p ∷ open_from (length p + 1) cs))
    chosen true e is h = h
    chosen false true is h = h ∙ sym (one true (length p) (open_from (length p + 1) cs) (ap (λ n. q == n) itself ∙ is))
    chosen false false is h = ap (λ l. length p ∷ l) h ∙ sym (one false (length p) (open_from (length p + 1) cs) (ap (λ n. q == n) itself ∙ is))
ended-open q p (c ∷ cs) = ended-open q p cs

still-open : (k : ℕ) (cs : List Command) (c : Command) → ((p : ℕ) → ends p c ≡ false) → ((j : ℕ) → open_from j (c ∷ []) ≡ []) → open_from k (cs ++ c ∷ []) ≡ open_from k cs
still-open k [] c h none = none k
still-open k (Begin p ∷ cs) c h none =
    ap (λ b. cond b (open_from (k + 1) (cs ++ c ∷ [])) (k ∷ open_from (k + 1) (cs ++ c ∷ []))) (list_any-append (ends p) cs (c ∷ []) ∙ ap (λ b. list_any (ends p) cs || (b || false)) (h p) ∙ or-false (list_any (ends p) cs))
    ∙ ap (λ l. cond (list_any (ends p) cs) l (k ∷ l)) (still-open (k + 1) cs c h none)
still-open k (d ∷ cs) c h none = still-open k cs c h none

-- one more command begins an issue, ends those of a query, or leaves them as they are
pub open_after-push : (cs : List Command) (c : Command) → open_after (cs ++ c ∷ []) ≡ open_with (issues cs) c (open_after cs)
open_after-push cs (Begin q) = begun-open 0 q cs ∙ ap (λ j. open_after cs ++ j ∷ []) (from_zero (length (issues cs)))
  where
    from_zero : (m : ℕ) → 0 + m ≡ m
    from_zero m = omega arith
open_after-push cs (End q) = ended-open q [] cs
open_after-push cs c = still-open 0 cs c (λ p. refl) (λ j. refl)
