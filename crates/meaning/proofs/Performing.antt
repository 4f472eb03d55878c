-- A session as it is performed: with the settings, issues and open queries of its steps, and a pending list that is performed under the results of the last run.
use Rattle.std.proofs.Common.{◌≡◌, ◌∙◌, ap, sym, subst, refl, ℕ, Bool, true, false, not, ◌&&◌, cond, List, [], ◌∷◌, ◌++◌}
use Rattle.std.specs.Prelude.{Option, Some, None, option_map}
use Rattle.std.specs.List.{flat_map}
use Rattle.std.proofs.lemmas.List.{append-nil}
use Rattle.std.proofs.lemmas.List.Concat.{flat_map-append}
use Rattle.gfxspec.specs.declared.geometry.Size.{Size}
use Rattle.gfxspec.specs.State.{Settings}
use Rattle.gfxspec.specs.Items.{Item, issue_count, opening}
use Rattle.gfxspec.specs.Commands.{Command, Kept}
use Rattle.gfxspec.specs.Recorded.{settings_after, items, issues, is_drawing, after_finish}
use Rattle.gfxspec.specs.Session.{Step, Records, Executes, Flushes, seen, all_seen, run, all_run, items_of_session, settings_now, open_now, last_of, last_issue, pending}
use Rattle.gfxspec.specs.Refusals.{is_among}
use Rattle.gfxspec.specs.Accepted.{AreAccepted}
use Rattle.gfxspec.specs.Predication.{withholds, is_performed, performed, result_of, results_behind, performed_step, performed_from, performed_session}
use Rattle.meaning.specs.Contexts.{counted_or}
use Rattle.meaning.specs.Standing.{is_run, settled}
use Rattle.meaning.proofs.Sessions.{all_seen-push, all_run-push, pending-push, settings_agree}
use Rattle.meaning.proofs.Standing.{by_steps, settled-record, settled-run, queries_agree, pixels_of, count_of, pending_result}
use Rattle.meaning.proofs.Performed.{calm, calm-append, calm_performed, performed-push, alike, performed_alike}
use Rattle.meaning.proofs.Predicates.{accepted_front, predicate_apart, withholds_same, not_open_unless_begun, no_last_begun}
use Rattle.meaning.proofs.Ended.{ended_unless_open}

performed_from-push : (size : Size) (done ss : List Step) (s : Step) → performed_from size done (ss ++ s ∷ []) ≡ performed_from size done ss ++ performed_step size (performed_from size done ss) s
performed_from-push size done [] s = refl
performed_from-push size done (t ∷ ss) s = performed_from-push size (done ++ performed_step size done t) ss s

-- one more step is performed behind those before it
pub performed_session-push : (size : Size) (ss : List Step) (s : Step) → performed_session size (ss ++ s ∷ []) ≡ performed_session size ss ++ performed_step size (performed_session size ss) s
performed_session-push size ss s = performed_from-push size [] ss s

-- ---- all but draws and clears is performed

step_run : (size : Size) (done : List Step) (s : Step) → calm (all_run (performed_step size done s)) ≡ calm (run s)
step_run size done (Records c) = chosen (is_drawing c) (withholds (results_behind size done) (settings_now done).predicate) refl
  where
    chosen : (d w : Bool) → is_drawing c ≡ d → calm (all_run (cond (not (d && w)) (Records c ∷ []) [])) ≡ calm (c ∷ [])
    chosen true true is = sym (ap (λ b. cond (not b) (c ∷ []) []) is)
    chosen true false is = refl
    chosen false w is = refl
step_run size done (Executes commands restore) =
    ap calm (append-nil (performed (results_behind size done) commands)) ∙ calm_performed (results_behind size done) [] commands
step_run size done Flushes = refl

step_seen : (size : Size) (done : List Step) (s : Step) → calm (all_seen (performed_step size done s)) ≡ calm (seen s)
step_seen size done (Records c) = chosen (is_drawing c) (withholds (results_behind size done) (settings_now done).predicate) refl
  where
    chosen : (d w : Bool) → is_drawing c ≡ d → calm (all_seen (cond (not (d && w)) (Records c ∷ []) [])) ≡ calm (c ∷ [])
    chosen true true is = sym (ap (λ b. cond (not b) (c ∷ []) []) is)
    chosen true false is = refl
    chosen false w is = refl
step_seen size done (Executes commands true) = refl
step_seen size done (Executes commands false) = refl
step_seen size done Flushes = refl

calm_more : (g : Step → List Command) (done more ss : List Step) (s : Step) → calm (flat_map g done) ≡ calm (flat_map g ss) → calm (flat_map g more) ≡ calm (g s) → calm (flat_map g (done ++ more)) ≡ calm (flat_map g ss ++ g s)
calm_more g done more ss s h k =
    ap calm (flat_map-append g done more) ∙ calm-append (flat_map g done) (flat_map g more)
    ∙ ap (λ l. l ++ calm (flat_map g more)) h ∙ ap (λ l. calm (flat_map g ss) ++ l) k
    ∙ sym (calm-append (flat_map g ss) (g s))

module _ (size : Size) where
  run_calm : (steps : List Step) → calm (all_run (performed_session size steps)) ≡ calm (all_run steps)
  run_calm steps = by_steps (λ ss. calm (all_run (performed_session size ss)) ≡ calm (all_run ss)) refl next steps
    where
      next : (ss : List Step) (s : Step) → calm (all_run (performed_session size ss)) ≡ calm (all_run ss) → calm (all_run (performed_session size (ss ++ s ∷ []))) ≡ calm (all_run (ss ++ s ∷ []))
      next ss s h =
          ap (λ d. calm (all_run d)) (performed_session-push size ss s)
          ∙ calm_more run (performed_session size ss) (performed_step size (performed_session size ss) s) ss s h (step_run size (performed_session size ss) s)
          ∙ ap calm (sym (all_run-push ss s))

  seen_calm : (steps : List Step) → calm (all_seen (performed_session size steps)) ≡ calm (all_seen steps)
  seen_calm steps = by_steps (λ ss. calm (all_seen (performed_session size ss)) ≡ calm (all_seen ss)) refl next steps
    where
      next : (ss : List Step) (s : Step) → calm (all_seen (performed_session size ss)) ≡ calm (all_seen ss) → calm (all_seen (performed_session size (ss ++ s ∷ []))) ≡ calm (all_seen (ss ++ s ∷ []))
      next ss s h =
          ap (λ d. calm (all_seen d)) (performed_session-push size ss s)
          ∙ calm_more seen (performed_session size ss) (performed_step size (performed_session size ss) s) ss s h (step_seen size (performed_session size ss) s)
          ∙ ap calm (sym (all_seen-push ss s))

  -- the settings, the open queries and the last issues are those of the steps
  pub settings_left : (steps : List Step) → settings_now (performed_session size steps) ≡ settings_now steps
  settings_left steps = (alike (all_seen (performed_session size steps)) (all_seen steps) (seen_calm steps)).settings

  pub open_left : (steps : List Step) → open_now (performed_session size steps) ≡ open_now steps
  open_left steps = (alike (all_run (performed_session size steps)) (all_run steps) (run_calm steps)).queries

  pub last_left : (steps : List Step) (q : ℕ) → last_issue q (performed_session size steps) ≡ last_issue q steps
  last_left steps q = ap last_of ((alike (all_run (performed_session size steps)) (all_run steps) (run_calm steps)).begun q)

  -- ---- up to the last run

  pub settled_left : (steps : List Step) → settled (performed_session size steps) ≡ performed_session size (settled steps)
  settled_left steps = by_steps (λ ss. settled (performed_session size ss) ≡ performed_session size (settled ss)) refl next steps
    where
      one : (done : List Step) (c : Command) (b : Bool) → settled (done ++ cond b (Records c ∷ []) []) ≡ settled done
      one done c true = settled-record done c
      one done c false = ap settled (append-nil done)

      behind_run : (ss : List Step) (s t : Step) → is_run s ≡ true → is_run t ≡ true → performed_session size (ss ++ s ∷ []) ≡ performed_session size ss ++ t ∷ [] → settled (performed_session size (ss ++ s ∷ [])) ≡ performed_session size (settled (ss ++ s ∷ []))
      behind_run ss s t is it pushed =
          ap settled pushed ∙ settled-run (performed_session size ss) t it ∙ sym pushed ∙ ap (performed_session size) (sym (settled-run ss s is))

      next : (ss : List Step) (s : Step) → settled (performed_session size ss) ≡ performed_session size (settled ss) → settled (performed_session size (ss ++ s ∷ [])) ≡ performed_session size (settled (ss ++ s ∷ []))
      next ss (Records c) h =
          let done : List Step = performed_session size ss in
          ap settled (performed_session-push size ss (Records c))
          ∙ one done c (is_performed (results_behind size done) (settings_now done) c)
          ∙ h ∙ ap (performed_session size) (sym (settled-record ss c))
      next ss (Executes commands restore) h =
          behind_run ss (Executes commands restore) (Executes (performed (results_behind size (performed_session size ss)) commands) restore) refl refl (performed_session-push size ss (Executes commands restore))
      next ss Flushes h = behind_run ss Flushes Flushes refl refl (performed_session-push size ss Flushes)

  -- ---- results

  counted_mapped : (o : Option ℕ) (is : List Item) → option_map (λ issue. issue_count issue is size.width size.height (λ x y. opening)) o ≡ counted_or None o is size (λ x y. opening)
  counted_mapped None is = refl
  counted_mapped (Some k) is = refl

  -- of a query that isn't open
  pub result_told : (steps : List Step) (q : ℕ) → is_among q (open_now steps) ≡ false → results_behind size steps q ≡ result_of (count_of size steps q)
  result_told steps q h =
      ap (λ o. result_of (option_map (λ issue. issue_count issue (items_of_session steps) size.width size.height (λ x y. opening)) o)) (ended_unless_open q steps h)
      ∙ ap result_of (counted_mapped (last_issue q steps) (items_of_session steps))

  -- where no query is open
  pub result_settled : (steps : List Step) (q : ℕ) → open_now steps ≡ [] → results_behind size steps q ≡ result_of (count_of size steps q)
  result_settled steps q none = result_told steps q (ap (is_among q) none)

  -- of a query that the pending list doesn't begin
  result_stays : (steps : List Step) (q : ℕ) → open_now (settled steps) ≡ [] → is_among q (issues (pending steps)) ≡ false → results_behind size steps q ≡ results_behind size (settled steps) q
  result_stays steps q none free =
      result_told steps q (ap (is_among q) (sym (queries_agree steps none)) ∙ not_open_unless_begun q (pending steps) free)
      ∙ ap result_of
      (pending_result size steps q none
      ∙ ap (λ o. counted_or (count_of size (settled steps) q) o (items_of_pending steps) size (pixels_of (settled steps))) (no_last_begun q (pending steps) free))
      ∙ sym (result_settled (settled steps) q none)
    where
      items_of_pending : List Step → List Item
      items_of_pending ss = items (pending ss)

  -- ---- the pending list

  abbrev PendingLeft : List Step → Type 0
  PendingLeft steps = open_now (settled steps) ≡ [] → AreAccepted (pending steps) → pending (performed_session size steps) ≡ performed (results_behind size (performed_session size (settled steps))) (pending steps)

  -- it is performed under the results of the last run
  pub pending_left : (steps : List Step) → PendingLeft steps
  pending_left steps = by_steps PendingLeft (λ none accepted. refl) next steps
    where
      kept : (restore : Bool) (results : ℕ → Bool) (before : List Command) → performed results (after_finish restore before) ≡ after_finish restore before
      kept true results before = refl
      kept false results before = refl

      same_kept : (restore : Bool) (cs ds : List Command) → settings_after cs ≡ settings_after ds → after_finish restore cs ≡ after_finish restore ds
      same_kept true cs ds h = ap (λ s. Kept s ∷ []) h
      same_kept false cs ds h = refl

      behind_run : (ss : List Step) (s t : Step) (restore : Bool) → performed_session size (ss ++ s ∷ []) ≡ performed_session size ss ++ t ∷ [] → pending (performed_session size ss ++ t ∷ []) ≡ after_finish restore (all_seen (performed_session size ss)) → pending (ss ++ s ∷ []) ≡ after_finish restore (all_seen ss) → PendingLeft (ss ++ s ∷ [])
      behind_run ss s t restore pushed begun anew none accepted =
          ap pending pushed ∙ begun ∙ same_kept restore (all_seen (performed_session size ss)) (all_seen ss) (settings_left ss)
          ∙ sym (kept restore (results_behind size (performed_session size (settled (ss ++ s ∷ [])))) (all_seen ss))
          ∙ ap (performed (results_behind size (performed_session size (settled (ss ++ s ∷ []))))) (sym anew)

      one : (done : List Step) (c : Command) (b : Bool) → pending (done ++ cond b (Records c ∷ []) []) ≡ pending done ++ cond b (c ∷ []) []
      one done c true = pending-push done (Records c)
      one done c false = ap pending (append-nil done) ∙ sym (append-nil (pending done))

      next : (ss : List Step) (s : Step) → PendingLeft ss → PendingLeft (ss ++ s ∷ [])
      next ss (Records c) h none accepted =
          let done : List Step = performed_session size ss in
          let list : List Command = pending ss in
          let results : ℕ → Bool = results_behind size (performed_session size (settled ss)) in
          let none_before : open_now (settled ss) ≡ [] = ap open_now (sym (settled-record ss c)) ∙ none in
          let before : AreAccepted list = accepted_front list c (subst AreAccepted (pending-push ss (Records c)) accepted) in
          let is : pending done ≡ performed results list = h none_before before in
          let none_done : open_now (settled done) ≡ [] = ap open_now (settled_left ss) ∙ open_left (settled ss) ∙ none_before in
          let settings : settings_now done ≡ settings_after list = settings_left ss ∙ sym (settings_agree ss) in
          let same : withholds (results_behind size done) (settings_after list).predicate ≡ withholds results (settings_after list).predicate =
          withholds_same (results_behind size done) results (settings_after list).predicate
          (λ p at.
          result_stays done p.0 none_done
          (ap (λ l. is_among p.0 (issues l)) is ∙ ap (is_among p.0) (performed_alike results list).issues_are ∙ predicate_apart list before p at)
          ∙ ap (λ d. results_behind size d p.0) (settled_left ss)) in
          ap pending (performed_session-push size ss (Records c))
          ∙ one done c (is_performed (results_behind size done) (settings_now done) c)
          ∙ ap (λ l. l ++ cond (is_performed (results_behind size done) (settings_now done) c) (c ∷ []) []) is
          ∙ ap (λ (s : Settings). performed results list ++ cond (is_performed (results_behind size done) s c) (c ∷ []) []) settings
          ∙ ap (λ w. performed results list ++ cond (not (is_drawing c && w)) (c ∷ []) []) same
          ∙ sym (performed-push results list c)
          ∙ ap (performed results) (sym (pending-push ss (Records c)))
          ∙ ap (λ d. performed (results_behind size (performed_session size d)) (pending (ss ++ Records c ∷ []))) (sym (settled-record ss c))
      next ss (Executes commands restore) h none accepted =
          let t : Step = Executes (performed (results_behind size (performed_session size ss)) commands) restore in
          behind_run ss (Executes commands restore) t restore (performed_session-push size ss (Executes commands restore))
          (pending-push (performed_session size ss) t) (pending-push ss (Executes commands restore)) none accepted
      next ss Flushes h none accepted =
          behind_run ss Flushes Flushes true (performed_session-push size ss Flushes) (pending-push (performed_session size ss) Flushes) (pending-push ss Flushes) none accepted
