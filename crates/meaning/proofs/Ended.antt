-- The last issue of a query that isn't open has ended.
use Rattle.std.proofs.Common.{◌≡◌, ◌∙◌, ap, sym, refl, arith, ℕ, ◌+◌, ◌<◌, Bool, true, false, true≢false, not, ◌||◌, cond, List, [], ◌∷◌}
use Rattle.std.specs.Prelude.{◌==◌, filter}
use Rattle.std.specs.List.{list_any}
use Rattle.std.proofs.lemmas.Bool.Decides.{nat_tests}
use Rattle.gfxspec.specs.Commands.{Command, Begin}
use Rattle.gfxspec.specs.Recorded.{ends, open_from, queries_open}
use Rattle.gfxspec.specs.Refusals.{is_among}
use Rattle.gfxspec.specs.Session.{Step, all_run, open_now, begun_from, last_of, last_issue}
use Rattle.gfxspec.specs.Predication.{last_ended}

-- none of these numbers is among the others
abbrev NoneAmong : List ℕ → List ℕ → Type 0
NoneAmong others [] = Unit {0}
NoneAmong others (k ∷ ks) = (is_among k others ≡ false) × NoneAmong others ks

-- all of these numbers are n or more
abbrev AllFrom : ℕ → List ℕ → Type 0
AllFrom n [] = Unit {0}
AllFrom n (k ∷ ks) = (n < k + 1) × AllFrom n ks

all_from_less : (n m : ℕ) (ks : List ℕ) → n < m + 1 → AllFrom m ks → AllFrom n ks
all_from_less n m [] l h = tt
all_from_less n m (k ∷ ks) l h = (omega (arith, l, h.0), all_from_less n m ks l h.1)

begun_all_from : (q n : ℕ) (cs : List Command) → AllFrom n (begun_from q n cs)
begun_all_from q n [] = tt
begun_all_from q n (Begin p ∷ cs) = chosen (p == q) (all_from_less n (n + 1) (begun_from q (n + 1) cs) (omega arith) (begun_all_from q (n + 1) cs))
  where
    chosen : (b : Bool) → AllFrom n (begun_from q (n + 1) cs) → AllFrom n (cond b (n ∷ begun_from q (n + 1) cs) (begun_from q (n + 1) cs))
    chosen true h = (omega arith, h)
    chosen false h = h
begun_all_from q n (c ∷ cs) = begun_all_from q n cs

open_all_from : (n : ℕ) (cs : List Command) → AllFrom n (open_from n cs)
open_all_from n [] = tt
open_all_from n (Begin p ∷ cs) = chosen (list_any (ends p) cs) (all_from_less n (n + 1) (open_from (n + 1) cs) (omega arith) (open_all_from (n + 1) cs))
  where
    chosen : (b : Bool) → AllFrom n (open_from (n + 1) cs) → AllFrom n (cond b (open_from (n + 1) cs) (n ∷ open_from (n + 1) cs))
    chosen true h = h
    chosen false h = (omega arith, h)
open_all_from n (c ∷ cs) = open_all_from n cs

differ : (k n : ℕ) → n + 1 < k + 1 → (k == n) ≡ false
differ k n h = grind (arith, nat_tests)

differ_other : (k n : ℕ) → n + 1 < k + 1 → (n == k) ≡ false
differ_other k n h = grind (arith, nat_tests)

both_false : (a b : Bool) → a ≡ false → b ≡ false → (a || b) ≡ false
both_false a b e f = ap (λ x. x || b) e ∙ f

not_below : (n : ℕ) (ks : List ℕ) → AllFrom (n + 1) ks → is_among n ks ≡ false
not_below n [] h = refl
not_below n (k ∷ ks) h = both_false (k == n) (is_among n ks) (differ k n h.0) (not_below n ks h.1)

-- one more among the others, below all
none_among_more : (n : ℕ) (others ks : List ℕ) → AllFrom (n + 1) ks → NoneAmong others ks → NoneAmong (n ∷ others) ks
none_among_more n others [] h g = tt
none_among_more n others (k ∷ ks) h g = (both_false (n == k) (is_among k others) (differ_other k n h.0) g.0, none_among_more n others ks h.1 g.1)

none_open : (q n : ℕ) (cs : List Command) → is_among q (queries_open cs) ≡ false → NoneAmong (open_from n cs) (begun_from q n cs)
none_open q n [] h = tt
none_open q n (Begin p ∷ cs) h = chosen (list_any (ends p) cs) (p == q) refl h (none_open q (n + 1) cs)
  where
    opened : List ℕ
    opened = open_from (n + 1) cs

    begun : List ℕ
    begun = begun_from q (n + 1) cs

    chosen : (b e : Bool) → (p == q) ≡ e → is_among q (cond b (queries_open cs) (p ∷ queries_open cs)) ≡ false → (is_among q (queries_open cs) ≡ false → NoneAmong opened begun) → NoneAmong (cond b opened (n ∷ opened)) (cond e (n ∷ begun) begun)
    chosen true true is f more = (not_below n opened (open_all_from (n + 1) cs), more f)
    chosen true false is f more = more f
    chosen false true is f more = absurd (true≢false (ap (λ x. x || is_among q (queries_open cs)) (sym is) ∙ f))
    chosen false false is f more = none_among_more n opened begun (begun_all_from q (n + 1) cs) (more (ap (λ x. x || is_among q (queries_open cs)) (sym is) ∙ f))
none_open q n (c ∷ cs) h = none_open q n cs h

all_left : (others ks : List ℕ) → NoneAmong others ks → filter (λ k. not (is_among k others)) ks ≡ ks
all_left others [] h = refl
all_left others (k ∷ ks) h =
    ap (λ b. cond (not b) (k ∷ filter (λ j. not (is_among j others)) ks) (filter (λ j. not (is_among j others)) ks)) h.0
    ∙ ap (λ l. k ∷ l) (all_left others ks h.1)

pub ended_unless_open : (q : ℕ) (steps : List Step) → is_among q (open_now steps) ≡ false → last_ended q steps ≡ last_issue q steps
ended_unless_open q steps h = ap last_of (all_left (open_from 0 (all_run steps)) (begun_from q 0 (all_run steps)) (none_open q 0 (all_run steps) h))
