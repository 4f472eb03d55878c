-- Sessions: what one more step adds, and that a flush is not there.
use Rattle.std.proofs.Common.{◌≡◌, ◌∙◌, ap, sym, refl, true, false, List, [], ◌∷◌, ◌++◌, append_assoc}
use Rattle.std.specs.List.{flat_map}
use Rattle.std.proofs.lemmas.List.{append-nil}
use Rattle.std.proofs.lemmas.List.Concat.{flat_map-append}
use Rattle.gfxspec.specs.State.{defaults}
use Rattle.gfxspec.specs.Commands.{Command, Kept}
use Rattle.gfxspec.specs.Recorded.{settings_after, open_after, items_at, items_behind, after_finish}
use Rattle.gfxspec.specs.Session.{Step, Records, Executes, Flushes, seen, all_seen, run, all_run, step_items, session_items, items_of_session, settings_now, pending_from, pending}
use Rattle.meaning.specs.OneMore.{settings_with, pending_with}
use Rattle.meaning.proofs.Nearest.{settings_after-push}

-- a step's items depend on what was seen and run before it
step-same : (e f : List Step) (s : Step) → all_seen e ≡ all_seen f → all_run e ≡ all_run f → step_items e s ≡ step_items f s
step-same e f (Records c) p q = ap (λ x. items_at (settings_after x) (open_after (all_run e)) c) p ∙ ap (λ x. items_at (settings_after (all_seen f)) (open_after x) c) q
step-same e f (Executes commands restore) p q = ap (λ x. items_behind x [] commands) q
step-same e f Flushes p q = refl

grows : {X : Type 0} (g : Step → List X) (e f : List Step) (s : Step) → flat_map g e ≡ flat_map g f → flat_map g (e ++ s ∷ []) ≡ flat_map g (f ++ s ∷ [])
grows g e f s p = flat_map-append g e (s ∷ []) ∙ ap (λ x. x ++ flat_map g (s ∷ [])) p ∙ sym (flat_map-append g f (s ∷ []))

pub items-same : (e f ss : List Step) → all_seen e ≡ all_seen f → all_run e ≡ all_run f → session_items e ss ≡ session_items f ss
items-same e f [] p q = refl
items-same e f (s ∷ ss) p q =
    ap (λ x. x ++ session_items (e ++ s ∷ []) ss) (step-same e f s p q)
    ∙ ap (λ x. step_items f s ++ x) (items-same (e ++ s ∷ []) (f ++ s ∷ []) ss (grows seen e f s p) (grows run e f s q))

idle : {X : Type 0} (g : Step → List X) (e : List Step) → flat_map g (Flushes ∷ []) ≡ [] → flat_map g (e ++ Flushes ∷ []) ≡ flat_map g e
idle g e h = flat_map-append g e (Flushes ∷ []) ∙ ap (λ x. flat_map g e ++ x) h ∙ append-nil (flat_map g e)

items-flush : (e before after : List Step) → session_items e (before ++ Flushes ∷ after) ≡ session_items e (before ++ after)
items-flush e [] after = items-same (e ++ Flushes ∷ []) e after (idle seen e refl) (idle run e refl)
items-flush e (s ∷ before) after = ap (λ x. step_items e s ++ x) (items-flush (e ++ s ∷ []) before after)

pub items_of_session-flush : (before after : List Step) → items_of_session (before ++ Flushes ∷ after) ≡ items_of_session (before ++ after)
items_of_session-flush before after = items-flush [] before after

-- ---- one more step

session_items-push : (e ss : List Step) (s : Step) → session_items e (ss ++ s ∷ []) ≡ session_items e ss ++ step_items (e ++ ss) s
session_items-push e [] s = append-nil _ ∙ ap (λ x. step_items x s) (sym (append-nil e))
session_items-push e (t ∷ ss) s =
    ap (λ x. step_items e t ++ x) (session_items-push (e ++ t ∷ []) ss s)
    ∙ ap (λ x. step_items e t ++ (session_items (e ++ t ∷ []) ss ++ step_items x s)) (append_assoc e (t ∷ []) ss)
    ∙ sym (append_assoc (step_items e t) (session_items (e ++ t ∷ []) ss) (step_items (e ++ (t ∷ ss)) s))

-- one more step adds its items
pub items_of_session-push : (ss : List Step) (s : Step) → items_of_session (ss ++ s ∷ []) ≡ items_of_session ss ++ step_items ss s
items_of_session-push ss s = session_items-push [] ss s

pub all_seen-push : (ss : List Step) (s : Step) → all_seen (ss ++ s ∷ []) ≡ all_seen ss ++ seen s
all_seen-push ss s = flat_map-append seen ss (s ∷ []) ∙ ap (λ x. all_seen ss ++ x) (append-nil (seen s))

pub all_run-push : (ss : List Step) (s : Step) → all_run (ss ++ s ∷ []) ≡ all_run ss ++ run s
all_run-push ss s = flat_map-append run ss (s ∷ []) ∙ ap (λ x. all_run ss ++ x) (append-nil (run s))

pending_from-push : (e : List Step) (list : List Command) (ss : List Step) (s : Step) → pending_from e list (ss ++ s ∷ []) ≡ pending_with (pending_from e list ss) (e ++ ss) s
pending_from-push e list [] (Records c) = refl
pending_from-push e list [] (Executes commands restore) = ap (λ x. after_finish restore (all_seen x)) (sym (append-nil e))
pending_from-push e list [] Flushes = ap (λ x. after_finish true (all_seen x)) (sym (append-nil e))
pending_from-push e list (Records c ∷ ss) s = pending_from-push (e ++ Records c ∷ []) (list ++ c ∷ []) ss s ∙ ap (λ x. pending_with (pending_from e list (Records c ∷ ss)) x s) (append_assoc e (Records c ∷ []) ss)
pending_from-push e list (Executes commands restore ∷ ss) s =
    pending_from-push (e ++ Executes commands restore ∷ []) (after_finish restore (all_seen e)) ss s
    ∙ ap (λ x. pending_with (pending_from e list (Executes commands restore ∷ ss)) x s) (append_assoc e (Executes commands restore ∷ []) ss)
pending_from-push e list (Flushes ∷ ss) s = pending_from-push (e ++ Flushes ∷ []) (after_finish true (all_seen e)) ss s ∙ ap (λ x. pending_with (pending_from e list (Flushes ∷ ss)) x s) (append_assoc e (Flushes ∷ []) ss)

pub pending-push : (ss : List Step) (s : Step) → pending (ss ++ s ∷ []) ≡ pending_with (pending ss) ss s
pending-push ss s = pending_from-push [] [] ss s

-- ---- the settings of the immediate context are those behind its pending list

settings_agree-step : (ss : List Step) (s : Step) (list : List Command) → settings_after list ≡ settings_now ss → settings_after (pending_with list ss s) ≡ settings_after (all_seen ss ++ seen s)
settings_agree-step ss (Records c) list h = settings_after-push list c ∙ ap (settings_with c) h ∙ sym (settings_after-push (all_seen ss) c)
settings_agree-step ss (Executes commands true) list h = ap settings_after (sym (append-nil (all_seen ss)))
settings_agree-step ss (Executes commands false) list h = sym (settings_after-push (all_seen ss) (Kept defaults))
settings_agree-step ss Flushes list h = ap settings_after (sym (append-nil (all_seen ss)))

settings_agree-from : (e : List Step) (list : List Command) (ss : List Step) → settings_after list ≡ settings_now e → settings_after (pending_from e list ss) ≡ settings_now (e ++ ss)
settings_agree-from e list [] h = h ∙ ap settings_now (sym (append-nil e))
settings_agree-from e list (s ∷ ss) h =
    pending_step e list s ss
    ∙ settings_agree-from (e ++ s ∷ []) (pending_with list e s) ss (settings_agree-step e s list h ∙ ap settings_after (sym (all_seen-push e s)))
    ∙ ap settings_now (append_assoc e (s ∷ []) ss)
  where
    pending_step : (e : List Step) (list : List Command) (s : Step) (ss : List Step) → settings_after (pending_from e list (s ∷ ss)) ≡ settings_after (pending_from (e ++ s ∷ []) (pending_with list e s) ss)
    pending_step e list (Records c) ss = refl
    pending_step e list (Executes commands restore) ss = refl
    pending_step e list Flushes ss = refl

pub settings_agree : (ss : List Step) → settings_after (pending ss) ≡ settings_now ss
settings_agree ss = settings_agree-from [] [] ss refl
