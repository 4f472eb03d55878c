-- A flush is not there, whatever is performed.
use Rattle.std.proofs.Common.{◌≡◌, ◌∙◌, ap, sym, subst, refl, ℕ, Bool, not, ◌&&◌, cond, List, [], ◌∷◌, ◌++◌, append_assoc}
use Rattle.std.specs.Prelude.{option_map, filter}
use Rattle.std.proofs.lemmas.List.{append-nil}
use Rattle.std.proofs.lemmas.List.Concat.{flat_map-append}
use Rattle.gfxspec.specs.declared.geometry.Size.{Size}
use Rattle.gfxspec.specs.Items.{issue_count, opening}
use Rattle.gfxspec.specs.Commands.{Command}
use Rattle.gfxspec.specs.Recorded.{settings_after, open_after, is_drawing}
use Rattle.gfxspec.specs.Session.{Step, Records, Executes, Flushes, seen, all_seen, run, all_run, step_items, session_items, items_of_session, begun_from, last_of}
use Rattle.gfxspec.specs.Refusals.{is_among}
use Rattle.gfxspec.specs.Predication.{withholds, is_performed, performed_behind, result_of, results_behind, last_ended, performed_step, performed_from, performed_session}
use Rattle.meaning.proofs.Sessions.{items-same, items_of_session-push, all_seen-push, all_run-push}
use Rattle.meaning.proofs.Predicates.{withholds_same}

session_items-append : (e ss ts : List Step) → session_items e (ss ++ ts) ≡ session_items e ss ++ session_items (e ++ ss) ts
session_items-append e [] ts = ap (λ d. session_items d ts) (sym (append-nil e))
session_items-append e (s ∷ ss) ts =
    ap (λ is. step_items e s ++ is) (session_items-append (e ++ s ∷ []) ss ts ∙ ap (λ d. session_items (e ++ s ∷ []) ss ++ session_items d ts) (append_assoc e (s ∷ []) ss))
    ∙ sym (append_assoc (step_items e s) (session_items (e ++ s ∷ []) ss) (session_items (e ++ (s ∷ ss)) ts))

-- steps that leave the same settings, issues and items
record Same (d e : List Step) : Type 0 where
  pub seen : all_seen d ≡ all_seen e
  pub run : all_run d ≡ all_run e
  pub items : items_of_session d ≡ items_of_session e

grown : (d e t : List Step) → Same d e → Same (d ++ t) (e ++ t)
grown d e t h = record {
  seen = flat_map-append seen d t ∙ ap (λ l. l ++ all_seen t) h.seen ∙ sym (flat_map-append seen e t);
  run = flat_map-append run d t ∙ ap (λ l. l ++ all_run t) h.run ∙ sym (flat_map-append run e t);
  items =
      session_items-append [] d t ∙ ap (λ l. l ++ session_items d t) h.items ∙ ap (λ l. items_of_session e ++ l) (items-same d e t h.seen h.run)
      ∙ sym (session_items-append [] e t);
}

performed_everywhere : (f g : ℕ → Bool) → ((q : ℕ) → f q ≡ g q) → (earlier cs : List Command) → performed_behind f earlier cs ≡ performed_behind g earlier cs
performed_everywhere f g same earlier [] = refl
performed_everywhere f g same earlier (c ∷ cs) =
    let o = (settings_after earlier).predicate in
    ap (λ w. cond (not (is_drawing c && w)) (c ∷ performed_behind f (earlier ++ c ∷ []) cs) (performed_behind f (earlier ++ c ∷ []) cs))
    (withholds_same f g o (λ p is. same p.0))
    ∙ ap (λ l. cond (not (is_drawing c && withholds g o)) (c ∷ l) l) (performed_everywhere f g same (earlier ++ c ∷ []) cs)

module _ (size : Size) where
  results_same : (d e : List Step) → Same d e → (q : ℕ) → results_behind size d q ≡ results_behind size e q
  results_same d e h q =
      ap (λ is. result_of (option_map (λ issue. issue_count issue is size.width size.height (λ x y. opening)) (last_ended q d))) h.items
      ∙ ap (λ cs. result_of (option_map (λ issue. issue_count issue (items_of_session e) size.width size.height (λ x y. opening)) (last_of (filter (λ k. not (is_among k (open_after cs))) (begun_from q 0 cs))))) h.run

  step_same : (d e : List Step) (s : Step) → Same d e → performed_step size d s ≡ performed_step size e s
  step_same d e (Records c) h =
      ap (λ cs. cond (is_performed (results_behind size d) (settings_after cs) c) (Records c ∷ []) []) h.seen
      ∙ ap (λ w. cond (not (is_drawing c && w)) (Records c ∷ []) [])
      (withholds_same (results_behind size d) (results_behind size e) (settings_after (all_seen e)).predicate (λ p is. results_same d e h p.0))
  step_same d e (Executes commands restore) h =
      ap (λ l. Executes l restore ∷ []) (performed_everywhere (results_behind size d) (results_behind size e) (results_same d e h) [] commands)
  step_same d e Flushes h = refl

  from_same : (ss d e : List Step) → Same d e → Same (performed_from size d ss) (performed_from size e ss)
  from_same [] d e h = h
  from_same (s ∷ ss) d e h =
      from_same ss (d ++ performed_step size d s) (e ++ performed_step size e s)
      (subst (λ t. Same (d ++ performed_step size d s) (e ++ t)) (step_same d e s h) (grown d e (performed_step size d s) h))

  without_flush : (d : List Step) → Same (d ++ Flushes ∷ []) d
  without_flush d = record {
    seen = all_seen-push d Flushes ∙ append-nil (all_seen d);
    run = all_run-push d Flushes ∙ append-nil (all_run d);
    items = items_of_session-push d Flushes ∙ append-nil (items_of_session d);
  }

  skips_flush : (before after d : List Step) → Same (performed_from size d (before ++ Flushes ∷ after)) (performed_from size d (before ++ after))
  skips_flush [] after d = from_same after (d ++ Flushes ∷ []) d (without_flush d)
  skips_flush (s ∷ before) after d = skips_flush before after (d ++ performed_step size d s)

  pub performed-flush : (before after : List Step) → items_of_session (performed_session size (before ++ Flushes ∷ after)) ≡ items_of_session (performed_session size (before ++ after))
  performed-flush before after = (skips_flush before after []).items
