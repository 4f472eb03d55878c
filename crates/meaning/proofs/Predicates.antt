-- Predicates of accepted commands: each names a query, and none that its list begins.
use Rattle.std.proofs.Common.{◌≡◌, ◌∙◌, ap, sym, subst, refl, arith, ℕ, ◌+◌, ◌<◌, Bool, true, false, true≢false, not, ◌&&◌, ◌||◌, cond, List, [], ◌∷◌, ◌++◌, append_assoc}
use Rattle.std.specs.Prelude.{Option, Some, None, ◌==◌, nat_le, unwrap_or, option_map}
use Rattle.std.specs.Bool.{beq}
use Rattle.std.specs.List.{list_any, cons_option}
use Rattle.std.proofs.Math.Bool.{or-false}
use Rattle.std.proofs.lemmas.Bool.Decides.{nat_tests}
use Rattle.std.proofs.lemmas.List.{append-nil}
use Rattle.std.proofs.lemmas.List.Folds.{list_any-append}
use Rattle.std.proofs.lemmas.List.Elements.{filter_map-append}
use Rattle.gfxspec.specs.declared.TheConstants.{QUERY_LIMIT}
use Rattle.gfxspec.specs.State.{Settings}
use Rattle.gfxspec.specs.Commands.{Command, SetPredication, Begin, Kept}
use Rattle.gfxspec.specs.Recorded.{settings_after, predicate_set, issues, query_named, queries_named, queries_open, ends, is_drawing}
use Rattle.gfxspec.specs.Session.{begun_from, last_of}
use Rattle.gfxspec.specs.Predication.{withholds, performed_behind, performed}
use Rattle.gfxspec.specs.Refusals.{list_rows, is_among, is_bad_predicate, is_begun_predicate}
use Rattle.gfxspec.specs.Accepted.{AreSound, IsAccepted, AcceptedBehind, AreAccepted}
use Rattle.meaning.specs.Contexts.{last_begun}
use Rattle.meaning.proofs.Nearest.{settings_after-push}
use Rattle.meaning.proofs.Growing.{issues-push}
use Rattle.meaning.proofs.Accepting.{none_of, sound_with, sound_after}

-- ---- one more accepted command

-- what accepted commands hand on holds behind all of them
pub along : (P : List Command → Type 0) → ((earlier : List Command) (c : Command) → IsAccepted earlier c → P earlier → P (earlier ++ c ∷ [])) → (earlier cs : List Command) → AcceptedBehind earlier cs → P earlier → P (earlier ++ cs)
along P next earlier [] h p = subst P (sym (append-nil earlier)) p
along P next earlier (c ∷ cs) h p = subst P (append_assoc earlier (c ∷ []) cs) (along P next (earlier ++ c ∷ []) cs h.1 (next earlier c h.0 p))

accepted_behind_front : (earlier cs : List Command) (c : Command) → AcceptedBehind earlier (cs ++ c ∷ []) → AcceptedBehind earlier cs
accepted_behind_front earlier [] c h = tt
accepted_behind_front earlier (d ∷ cs) c h = (h.0, accepted_behind_front (earlier ++ d ∷ []) cs c h.1)

pub accepted_front : (cs : List Command) (c : Command) → AreAccepted (cs ++ c ∷ []) → AreAccepted cs
accepted_front cs c h = accepted_behind_front [] cs c h

-- ---- a query among others

among-append : (q : ℕ) (xs ys : List ℕ) → is_among q (xs ++ ys) ≡ (is_among q xs || is_among q ys)
among-append q xs ys = list_any-append (λ p. p == q) xs ys

itself : (q : ℕ) → (q == q) ≡ true
itself q = grind (arith, nat_tests)

equal : (p q : ℕ) → (p == q) ≡ true → p ≡ q
equal p q e = grind (arith, nat_tests)

or_true : (a b : Bool) → b ≡ true → (a || (b || false)) ≡ true
or_true true b e = refl
or_true false true e = refl
or_true false false e = absurd cc

or_left : (a b : Bool) → a ≡ true → (a || b) ≡ true
or_left a b e = ap (λ x. x || b) e

both_false : (a b : Bool) → a ≡ false → b ≡ false → (a || b) ≡ false
both_false a b e f = ap (λ x. x || b) e ∙ f

first_false : (a b : Bool) → (a || b) ≡ false → a ≡ false
first_false true b e = e
first_false false b e = refl

second_false : (a b : Bool) → (a || b) ≡ false → b ≡ false
second_false true b e = absurd cc
second_false false b e = e

-- ---- the predicate in force is one that a command names

abbrev IsNamed : List Command → Type 0
IsNamed cs = (p : ℕ × Bool) → (settings_after cs).predicate ≡ Some p → is_among p.0 (queries_named cs) ≡ true

predicate-push : (cs : List Command) (c : Command) → (settings_after (cs ++ c ∷ [])).predicate ≡ unwrap_or (predicate_set c) (settings_after cs).predicate
predicate-push cs c = ap (λ (s : Settings). s.predicate) (settings_after-push cs c)

named-push : (q : ℕ) (cs : List Command) (c : Command) → is_among q (queries_named (cs ++ c ∷ [])) ≡ (is_among q (queries_named cs) || is_among q (queries_named (c ∷ [])))
named-push q cs c = ap (is_among q) (filter_map-append query_named cs (c ∷ [])) ∙ among-append q (queries_named cs) (queries_named (c ∷ []))

-- of a command that sets this predicate
set_named : (cs : List Command) (c : Command) (o : Option (ℕ × Bool)) → predicate_set c ≡ Some o → query_named c ≡ option_map (λ p. p.0) o → IsNamed (cs ++ c ∷ [])
set_named cs c None set named p is = absurd (none (sym is ∙ predicate-push cs c ∙ ap (λ o. unwrap_or o (settings_after cs).predicate) set))
  where
    none : Some p ≡ None → ⊥
    none e = absurd cc
set_named cs c (Some (q, value)) set named p is =
    named-push p.0 cs c
    ∙ ap (λ o. is_among p.0 (queries_named cs) || is_among p.0 (cons_option o [])) named
    ∙ or_true (is_among p.0 (queries_named cs)) (q == p.0) (ap (λ n. n == p.0) same ∙ itself p.0)
  where
    same : q ≡ p.0
    same = ap (λ o. (unwrap_or o p).0) (sym (sym is ∙ predicate-push cs c ∙ ap (λ o. unwrap_or o (settings_after cs).predicate) set))

-- of a command that sets none
other_named : (cs : List Command) (c : Command) → predicate_set c ≡ None → IsNamed cs → IsNamed (cs ++ c ∷ [])
other_named cs c none h p is =
    named-push p.0 cs c
    ∙ or_left (is_among p.0 (queries_named cs)) (is_among p.0 (queries_named (c ∷ []))) (h p (sym (predicate-push cs c ∙ ap (λ o. unwrap_or o (settings_after cs).predicate) none) ∙ is))

named_next : (cs : List Command) (c : Command) → IsNamed cs → IsNamed (cs ++ c ∷ [])
named_next cs (SetPredication predicate) h = set_named cs (SetPredication predicate) predicate refl refl
named_next cs (Kept s) h = set_named cs (Kept s) s.predicate refl refl
named_next cs c h = other_named cs c refl h

-- ---- and no command of an accepted list begins its query

abbrev IsApart : List Command → Type 0
IsApart cs = (p : ℕ × Bool) → (settings_after cs).predicate ≡ Some p → is_among p.0 (issues cs) ≡ false

begun-push : (q : ℕ) (cs : List Command) (c : Command) → is_among q (issues (cs ++ c ∷ [])) ≡ (is_among q (issues cs) || is_among q (issues (c ∷ [])))
begun-push q cs c = ap (is_among q) (issues-push cs c) ∙ among-append q (issues cs) (issues (c ∷ []))

-- a command that neither sets a predicate nor begins a query
still_apart : (cs : List Command) (c : Command) → predicate_set c ≡ None → issues (c ∷ []) ≡ [] → IsApart cs → IsApart (cs ++ c ∷ [])
still_apart cs c none quiet h p is =
    begun-push p.0 cs c
    ∙ both_false (is_among p.0 (issues cs)) (is_among p.0 (issues (c ∷ [])))
    (h p (sym (predicate-push cs c ∙ ap (λ o. unwrap_or o (settings_after cs).predicate) none) ∙ is))
    (ap (is_among p.0) quiet)

-- a command that begins another query
begun_apart : (cs : List Command) (q : ℕ) → is_among q (queries_named cs) ≡ false → IsNamed cs → IsApart cs → IsApart (cs ++ Begin q ∷ [])
begun_apart cs q free named h p is =
    begun-push p.0 cs (Begin q)
    ∙ both_false (is_among p.0 (issues cs)) ((q == p.0) || false) (h p before) (or-false (q == p.0) ∙ differ (q == p.0) refl)
  where
    before : (settings_after cs).predicate ≡ Some p
    before = sym (predicate-push cs (Begin q)) ∙ is

    differ : (b : Bool) → (q == p.0) ≡ b → b ≡ false
    differ false e = refl
    differ true e = absurd (true≢false (sym (named p before) ∙ ap (λ n. is_among n (queries_named cs)) (sym (equal q p.0 e)) ∙ free))

-- a command that sets a predicate by a query that isn't begun
set_apart : (cs : List Command) (predicate : Option (ℕ × Bool)) → is_begun_predicate cs predicate ≡ false → IsApart (cs ++ SetPredication predicate ∷ [])
set_apart cs predicate free p is =
    begun-push p.0 cs (SetPredication predicate)
    ∙ both_false (is_among p.0 (issues cs)) false (subst (λ o. is_begun_predicate cs o ≡ false) (sym (predicate-push cs (SetPredication predicate)) ∙ is) free) refl

record Predicated (cs : List Command) : Type 0 where
  pub named : IsNamed cs
  pub apart : IsApart cs

predicated_next : (cs : List Command) (c : Command) → IsAccepted cs c → Predicated cs → Predicated (cs ++ c ∷ [])
predicated_next cs c a h = record { named = named_next cs c h.named; apart = by cs c a h }
  where
    by : (cs : List Command) (c : Command) → IsAccepted cs c → Predicated cs → IsApart (cs ++ c ∷ [])
    by cs (SetPredication predicate) a h = set_apart cs predicate (none_of (list_rows cs (SetPredication predicate)) a).1.0
    by cs (Begin q) a h = begun_apart cs q (none_of (list_rows cs (Begin q)) a).1.1.0 h.named h.apart
    by cs (Kept s) a h = subst (λ e. IsApart (e ++ Kept s ∷ [])) (sym a.0) (λ p is. refl)
    by cs c a h = still_apart cs c refl refl h.apart

predicated : (cs : List Command) → AreAccepted cs → Predicated cs
predicated cs h = along Predicated predicated_next [] cs h (record { named = λ p is. absurd (nothing p is); apart = λ p is. refl })
  where
    nothing : (p : ℕ × Bool) → None ≡ Some p → ⊥
    nothing p e = absurd cc

-- no accepted list begins the query of the predicate in force
pub predicate_apart : (cs : List Command) → AreAccepted cs → (p : ℕ × Bool) → (settings_after cs).predicate ≡ Some p → is_among p.0 (issues cs) ≡ false
predicate_apart cs h = (predicated cs h).apart

-- the predicate in force names a query
pub predicate_in_range : (s : Settings) → AreSound s → (p : ℕ × Bool) → s.predicate ≡ Some p → p.0 < QUERY_LIMIT
predicate_in_range s sound p is = below p.0 (subst (λ o. is_bad_predicate o ≡ false) is sound.predicate)
  where
    below : (q : ℕ) → nat_le QUERY_LIMIT q ≡ false → q < QUERY_LIMIT
    below q e = grind (arith, nat_tests)

-- ---- results that are the same where a predicate may name them

pub withholds_same : (f g : ℕ → Bool) (o : Option (ℕ × Bool)) → ((p : ℕ × Bool) → o ≡ Some p → f p.0 ≡ g p.0) → withholds f o ≡ withholds g o
withholds_same f g None same = refl
withholds_same f g (Some (q, value)) same = ap (λ b. beq b value) (same (q, value) refl)

performed_same_behind : (f g : ℕ → Bool) → ((q : ℕ) → q < QUERY_LIMIT → f q ≡ g q) → (earlier cs : List Command) → AreSound (settings_after earlier) → AcceptedBehind earlier cs → performed_behind f earlier cs ≡ performed_behind g earlier cs
performed_same_behind f g same earlier [] sound h = refl
performed_same_behind f g same earlier (c ∷ cs) sound h =
    let s = settings_after earlier in
    let more = subst AreSound (sym (settings_after-push earlier c)) (sound_with earlier c s h.0 sound) in
    ap (λ w. cond (not (is_drawing c && w)) (c ∷ performed_behind f (earlier ++ c ∷ []) cs) (performed_behind f (earlier ++ c ∷ []) cs))
    (withholds_same f g s.predicate (λ p is. same p.0 (predicate_in_range s sound p is)))
    ∙ ap (λ l. cond (not (is_drawing c && withholds g s.predicate)) (c ∷ l) l) (performed_same_behind f g same (earlier ++ c ∷ []) cs more h.1)

-- of accepted commands the same are performed under results that are the same for each query
pub performed_same : (f g : ℕ → Bool) (cs : List Command) → AreAccepted cs → ((q : ℕ) → q < QUERY_LIMIT → f q ≡ g q) → performed f cs ≡ performed g cs
performed_same f g cs h same = performed_same_behind f g same [] cs (sound_after [] tt) h

-- ---- queries that a list doesn't begin

-- none of its issues is open,
pub not_open_unless_begun : (q : ℕ) (cs : List Command) → is_among q (issues cs) ≡ false → is_among q (queries_open cs) ≡ false
not_open_unless_begun q [] h = refl
not_open_unless_begun q (Begin p ∷ cs) h =
    chosen (list_any (ends p) cs) (first_false (p == q) (is_among q (issues cs)) h) (not_open_unless_begun q cs (second_false (p == q) (is_among q (issues cs)) h))
  where
    chosen : (b : Bool) → (p == q) ≡ false → is_among q (queries_open cs) ≡ false → is_among q (cond b (queries_open cs) (p ∷ queries_open cs)) ≡ false
    chosen true e f = f
    chosen false e f = both_false (p == q) (is_among q (queries_open cs)) e f
not_open_unless_begun q (c ∷ cs) h = not_open_unless_begun q cs h

-- and none is the last
none_begun : (q k : ℕ) (cs : List Command) → is_among q (issues cs) ≡ false → begun_from q k cs ≡ []
none_begun q k [] h = refl
none_begun q k (Begin p ∷ cs) h =
    ap (λ b. cond b (k ∷ begun_from q (k + 1) cs) (begun_from q (k + 1) cs)) (first_false (p == q) (is_among q (issues cs)) h)
    ∙ none_begun q (k + 1) cs (second_false (p == q) (is_among q (issues cs)) h)
none_begun q k (c ∷ cs) h = none_begun q k cs h

pub no_last_begun : (q : ℕ) (cs : List Command) → is_among q (issues cs) ≡ false → last_begun q cs ≡ None
no_last_begun q cs h = ap last_of (none_begun q 0 cs h)
