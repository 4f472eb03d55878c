-- A context's lines, one by one.
use Rattle.std.proofs.Common.{◌≡◌, ◌∙◌, ap, sym, subst, refl, ℕ, ◌+◌, ◌<◌, ◌≤◌, arith, Bool, true, false, cond, List, [], ◌++◌, length, take, below_more, Some, None, Option, ◌%◌}
use Rattle.std.specs.Prelude.{All, slice_index_or}
use Rattle.std.proofs.lemmas.List.{append-nil, length_push, length-append, get_or_push}
use Rattle.std.proofs.lemmas.List.Elements.{All-push}
use Rattle.std.proofs.lemmas.List.Sums.{fold_more}
use Rattle.gfxspec.specs.Commands.{Command}
use Rattle.gfxspec.specs.Refusals.{first_row}
use Rattle.scenetext.specs.Scene.{Verb, Call, Finish, Line}
use Rattle.scenetext.specs.Spelling.{is_deferred}
use Rattle.recorders.specs.declared.ports.Recorded.{Recorded}
use Rattle.recorders.specs.declared.refusal.RefusedLine.{RefusedLine}
use Rattle.recorders.specs.Recording.{Recording, nothing_recorded, with_verb, with_line, recording_of, deferred_rows, listed}
use Rattle.recorders.specs.Apart.{line_at, a_line, lists_behind, IsListed, AcceptsTo, Cause, refused_by, IsStopOf}
use Rattle.recorders.specs.Taking.{AtWork, starting, current_after, lists_after, given_by, VerbTaken, VerbRefused, TakenIf, HasTaken}
use Rattle.recorders.specs.Recorders.{HasRecorded}
use Rattle.recorders.proofs.Growing.{listed_early}
use Rattle.recorders.proofs.Places.{IsFirst, kept_on, none_of}

-- ---- one verb

current_with : (v : Verb) (q : Recording) → current_after v q.current ≡ (with_verb q v).current
current_with (Call c) q = refl
current_with v q = refl

lists_with : (v : Verb) (q : Recording) → lists_after v (length q.lists) ≡ length (with_verb q v).lists
lists_with (Finish restore) q = sym (length_push q.lists q.current)
lists_with v q = refl

-- as many lists more as it gives, which is one at most
given_with : (v : Verb) (r : AtWork) → (lists_after v r.end.lists ≡ r.end.lists + length (given_by v r)) × (length (given_by v r) ≤ 1)
given_with (Finish restore) r = (omega arith, omega arith)
given_with v r = (omega arith, omega arith)

-- a list that a verb finishes is the last of those behind it
listed_with : (ls : List Line) (v : Verb) (r : AtWork) (q : Recording) (before : List (Recorded (List Command))) → r.current ≡ q.current → r.end.lists ≡ length q.lists → ((n : ℕ) → n < length (with_verb q v).lists → listed ls r.context n ≡ slice_index_or (with_verb q v).lists n []) → All (IsListed ls) before → All (IsListed ls) (before ++ given_by v r)
listed_with ls (Finish restore) r q before current finished early all =
    let one = length_push q.lists q.current in
    All-push (IsListed ls) before (record { context = r.context; number = r.end.lists; list = r.current }) all
    (current ∙ sym (get_or_push q.lists q.current [] r.end.lists (sym finished)) ∙ sym (early r.end.lists (omega (arith, finished, one))))
listed_with ls v r q before current finished early all = subst (All (IsListed ls)) (sym (append-nil before)) all

-- ---- one line

-- context k has taken the first i lines, or those before the one that it refused
pub record IsAt (ls : List Line) (k i : ℕ) (r : AtWork) : Type 0 where
  pub context_is : r.context ≡ k
  pub current_is : r.end.refused ≡ None → r.current ≡ (recording_of k (take i ls)).current
  pub recorded : HasRecorded ls k i r.end.lists r.end.refused

pub starts_at : (ls : List Line) (k : ℕ) (r : AtWork) → r ≡ starting k → IsAt ls k 0 r
starts_at ls k r is =
    subst (IsAt ls k 0) (sym is) record {
      context_is = refl;
      current_is = λ none. refl;
      recorded = record { counted = refl; accepts = λ j low own. absurd (omega (arith, low)); stop_is = tt };
    }

pub record IsStep (ls : List Line) (k i : ℕ) (old new : AtWork) (before after : List (Recorded (List Command))) : Type 0 where
  pub now : IsAt ls k (i + 1) new
  pub listed_is : All (IsListed ls) before → All (IsListed ls) after
  pub counted : length after + old.end.lists ≡ length before + new.end.lists
  pub few : new.end.lists ≤ old.end.lists + 1

module _ (ls : List Line) (k i : ℕ) (below : i < length ls) where
  abbrev l : Line
  l = line_at ls i

  -- what the context recorded before the line, and behind it
  abbrev q : Recording
  q = recording_of k (take i ls)

  abbrev behind : Recording
  behind = recording_of k (take (i + 1) ls)

  next : (own : Bool) → is_deferred k l.actor ≡ own → behind ≡ cond own (with_verb q l.verb) q
  next own is = fold_more (with_line k) nothing_recorded ls i a_line below ∙ ap (λ b. cond b (with_verb q l.verb) q) is

  module _ (old : AtWork) (h : IsAt ls k i old) where
    stopped : (s : RefusedLine) → old.end.refused ≡ Some s → IsAt ls k (i + 1) old
    stopped s is =
        let past = subst (HasRecorded ls k i old.end.lists) is h.recorded in
        record {
          context_is = h.context_is;
          current_is = λ none. absurd cc;
          recorded = subst (HasRecorded ls k (i + 1) old.end.lists) (sym is) (record { counted = past.counted; accepts = past.accepts; stop_is = (omega (arith, past.stop_is.0), past.stop_is.1, past.stop_is.2) });
        }

    module _ (free : old.end.refused ≡ None) where
      past : HasRecorded ls k i old.end.lists None
      past = subst (HasRecorded ls k i old.end.lists) free h.recorded

      -- the line was not refused either
      went_on : (r : AtWork) → r.context ≡ k → r.end.refused ≡ None → r.current ≡ behind.current → r.end.lists ≡ length behind.lists → (is_deferred k l.actor ≡ true → refused_by ls k i ≡ None) → IsAt ls k (i + 1) r
      went_on r context none current lists accepts =
          let all = below_more (λ j. is_deferred k (line_at ls j).actor ≡ true → refused_by ls k j ≡ None) i past.accepts accepts in
          record {
            context_is = context;
            current_is = λ o. current;
            recorded = subst (HasRecorded ls k (i + 1) r.end.lists) (sym none) (record { counted = lists; accepts = all; stop_is = tt });
          }

      other : is_deferred k l.actor ≡ false → IsAt ls k (i + 1) old
      other none =
          let same = sym (next false none) in
          went_on old h.context_is free (h.current_is free ∙ ap (λ (x : Recording). x.current) same) (past.counted ∙ ap (λ (x : Recording). length x.lists) same) (λ own. absurd cc)

    -- the line is another's
    passed : is_deferred k l.actor ≡ false → IsAt ls k (i + 1) old
    passed mine = by old.end.refused refl
      where
        by : (was : Option RefusedLine) → old.end.refused ≡ was → IsAt ls k (i + 1) old
        by (Some s) is = stopped s is
        by None free = other free mine

  module _ (old : AtWork) (h : IsAt ls k i old) (new : AtWork) (before after : List (Recorded (List Command))) where
    -- nothing changed
    unchanged : (new ≡ old) × (after ≡ before) → IsAt ls k (i + 1) old → IsStep ls k i old new before after
    unchanged same at = record {
      now = subst (IsAt ls k (i + 1)) (sym same.0) at;
      listed_is = λ all. subst (All (IsListed ls)) (sym same.1) all;
      counted = omega (arith, ap (λ (x : AtWork). x.end.lists) same.0, ap length same.1);
      few = omega (arith, ap (λ (x : AtWork). x.end.lists) same.0);
    }

    module _ (free : old.end.refused ≡ None) where
      taken : is_deferred k l.actor ≡ true → VerbTaken l.verb old new before after → IsStep ls k i old new before after
      taken own t =
          let one = next true own in
          let given = given_with l.verb old in
          record {
            now =
                went_on old h free new (t.context_is ∙ h.context_is) (t.refused_is ∙ free)
                (t.current_is ∙ ap (current_after l.verb) (h.current_is free) ∙ current_with l.verb q ∙ ap (λ (x : Recording). x.current) (sym one))
                (t.lists_are ∙ ap (lists_after l.verb) (past old h free).counted ∙ lists_with l.verb q ∙ ap (λ (x : Recording). length x.lists) (sym one))
                (λ mine. ap (λ c. first_row (deferred_rows c l.verb)) (sym (h.current_is free)) ∙ t.accepts);
            listed_is = λ all.
                subst (All (IsListed ls)) (sym t.gives)
                (listed_with ls l.verb old q before (h.current_is free) (past old h free).counted
                (λ n low. ap (λ c. listed ls c n) h.context_is ∙ listed_early k (i + 1) n ls (subst (λ (x : Recording). n < length x.lists) (sym one) low) ∙ ap (λ (x : Recording). slice_index_or x.lists n []) one) all);
            counted = omega (arith, given.0, ap length t.gives, length-append before (given_by l.verb old), t.lists_are);
            few = omega (arith, given.0, given.1, t.lists_are);
          }

      refused : is_deferred k l.actor ≡ true → (s : RefusedLine) → new.end.refused ≡ Some s → s.place ≡ i → VerbRefused l.verb old new before after s.refusal → IsStep ls k i old new before after
      refused own s is at r =
          let cause = subst (λ c. Cause (first_row (deferred_rows c l.verb)) s.refusal) (h.current_is free) r.cause in
          let stop : IsStopOf ls k (i + 1) (Some s) = (omega (arith, at), subst (λ j. is_deferred k (line_at ls j).actor ≡ true) (sym at) own, subst (λ j. Cause (refused_by ls k j) s.refusal) (sym at) cause) in
          let lists = r.lists_are ∙ (past old h free).counted ∙ ap (λ n. length (lists_behind ls k n)) (sym at) in
          record {
            now = record {
              context_is = r.context_is ∙ h.context_is;
              current_is = λ none. absurd cc;
              recorded = subst (HasRecorded ls k (i + 1) new.end.lists) (sym is) (record { counted = lists; accepts = subst (AcceptsTo ls k) (sym at) (past old h free).accepts; stop_is = stop });
            };
            listed_is = λ all. subst (All (IsListed ls)) (sym r.nothing) all;
            counted = omega (arith, r.lists_are, ap length r.nothing);
            few = omega (arith, r.lists_are);
          }

    pub step : (m : Line) (p : ℕ) → m ≡ l → p ≡ i → HasTaken p m old new before after → IsStep ls k i old new before after
    step m p here at t =
        by old.end.refused refl (is_deferred k l.actor) refl new.end.refused refl
        (subst (λ c. TakenIf old.end.refused (is_deferred c l.actor) new.end.refused i l.verb old new before after) h.context_is (subst (λ n. HasTaken n l old new before after) at (subst (λ (x : Line). HasTaken p x old new before after) here t)))
      where
        by : (was : Option RefusedLine) → old.end.refused ≡ was → (own : Bool) → is_deferred k l.actor ≡ own → (now : Option RefusedLine) → new.end.refused ≡ now → TakenIf was own now i l.verb old new before after → IsStep ls k i old new before after
        by (Some s) was own mine now is same = unchanged same (stopped old h s was)
        by None free false mine now is same = unchanged same (other old h free mine)
        by None free true mine None is t = taken free mine t
        by None free true mine (Some s) is t = refused free mine s is t.0 t.1

-- ---- on to the next line of the recorder

pub on_to : (ls : List Line) (k t i q : ℕ) (r : AtWork) → k % 4 ≡ t → IsFirst ls t i q → IsAt ls k i r → IsAt ls k q r
on_to ls k t i q r same first h =
    kept_on (λ n. IsAt ls k n r) ls t i q first (λ m low other at. passed ls k m low r at (none_of k t (line_at ls m).actor same other)) h
