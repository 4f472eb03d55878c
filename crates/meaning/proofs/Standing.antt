-- The immediate context behind a session: what its pending list and its stored values come to, and what one more step changes.
use Rattle.std.proofs.Common.{◌≡◌, ◌∙◌, ap, sym, subst, refl, ℕ, ◌+◌, Bool, true, false, ◌||◌, cond, List, [], ◌∷◌, ◌++◌, map, append_assoc}
use Rattle.std.specs.Prelude.{Option, None}
use Rattle.std.specs.List.{list_any}
use Rattle.std.proofs.Math.Bool.{or-false}
use Rattle.std.proofs.lemmas.List.{append-nil, map-append}
use Rattle.std.proofs.lemmas.List.Folds.{list_any-append}
use Rattle.gfxspec.specs.declared.geometry.Size.{Size}
use Rattle.gfxspec.specs.declared.pixel.Pixel.{Pixel}
use Rattle.gfxspec.specs.Items.{Item, after_items, opening}
use Rattle.gfxspec.specs.Commands.{Command}
use Rattle.gfxspec.specs.Recorded.{settings_after, open_after, queries_open, items_at, items, after_finish}
use Rattle.gfxspec.specs.Session.{Step, Records, Executes, Flushes, all_seen, all_run, items_of_session, settings_now, open_now, last_issue, pending}
use Rattle.meaning.specs.Renumbering.{renumbered}
use Rattle.meaning.specs.Contexts.{last_begun, counted_or, result_after}
use Rattle.meaning.specs.Standing.{issues_begun, is_run, settled, Follows}
use Rattle.meaning.proofs.Growing.{items-push}
use Rattle.meaning.proofs.Sessions.{items_of_session-push, all_run-push, pending-push, settings_agree}
use Rattle.meaning.proofs.Renumbering.{open_after-behind, items_at-renumbered, renumbers}
use Rattle.meaning.proofs.Issues.{queries_open-behind, last_behind, last_begun-append, last_begun_below}
use Rattle.meaning.proofs.Following.{session_without, follows, result_follows}

-- what holds at the start and behind each further step holds of all steps
pub by_steps : (P : List Step → Type 0) → P [] → ((ss : List Step) (s : Step) → P ss → P (ss ++ s ∷ [])) → (steps : List Step) → P steps
by_steps P start next steps = go [] steps start
  where
    go : (earlier ss : List Step) → P earlier → P (earlier ++ ss)
    go earlier [] h = subst P (sym (append-nil earlier)) h
    go earlier (s ∷ ss) h = subst P (append_assoc earlier (s ∷ []) ss) (go (earlier ++ s ∷ []) ss (next earlier s h))

-- ---- up to the last run

pub settled-record : (ss : List Step) (c : Command) → settled (ss ++ Records c ∷ []) ≡ settled ss
settled-record [] c = refl
settled-record (s ∷ ss) c =
    ap (λ b. cond (is_run s || b) (s ∷ settled (ss ++ Records c ∷ [])) []) (list_any-append is_run ss (Records c ∷ []) ∙ or-false (list_any is_run ss))
    ∙ ap (λ l. cond (is_run s || list_any is_run ss) (s ∷ l) []) (settled-record ss c)

pub settled-run : (ss : List Step) (s : Step) → is_run s ≡ true → settled (ss ++ s ∷ []) ≡ ss ++ s ∷ []
settled-run [] s h = ap (λ b. cond (b || false) (s ∷ []) []) h
settled-run (t ∷ ss) s h =
    ap (λ b. cond b (t ∷ settled (ss ++ s ∷ [])) []) (ap (λ b. is_run t || b) (list_any-append is_run ss (s ∷ []) ∙ ap (λ b. list_any is_run ss || (b || false)) h) ∙ last (is_run t) (list_any is_run ss))
    ∙ ap (λ l. t ∷ l) (settled-run ss s h)
  where
    last : (a b : Bool) → (a || (b || true)) ≡ true
    last true b = refl
    last false true = refl
    last false false = refl

-- the commands that were recorded since the last run, and what it kept
record Split (steps : List Step) : Type 0 where
  pub since : List Command
  pub restore : Bool
  pub before : List Command
  pub run_is : all_run steps ≡ all_run (settled steps) ++ since
  pub pending_is : pending steps ≡ after_finish restore before ++ since

split : (steps : List Step) → Split steps
split steps = by_steps Split (record { since = []; restore = false; before = []; run_is = refl; pending_is = refl }) next steps
  where
    behind_run : (ss : List Step) (s : Step) (restore : Bool) → is_run s ≡ true → pending (ss ++ s ∷ []) ≡ after_finish restore (all_seen ss) → Split (ss ++ s ∷ [])
    behind_run ss s restore is kept = record {
      since = [];
      restore = restore;
      before = all_seen ss;
      run_is = sym (ap all_run (settled-run ss s is)) ∙ sym (append-nil (all_run (settled (ss ++ s ∷ []))));
      pending_is = kept ∙ sym (append-nil (after_finish restore (all_seen ss)));
    }

    next : (ss : List Step) (s : Step) → Split ss → Split (ss ++ s ∷ [])
    next ss (Records c) h = record {
      since = h.since ++ c ∷ [];
      restore = h.restore;
      before = h.before;
      run_is =
          all_run-push ss (Records c) ∙ ap (λ l. l ++ c ∷ []) h.run_is ∙ append_assoc (all_run (settled ss)) h.since (c ∷ [])
          ∙ ap (λ l. all_run l ++ (h.since ++ c ∷ [])) (sym (settled-record ss c));
      pending_is =
          pending-push ss (Records c) ∙ ap (λ l. l ++ c ∷ []) h.pending_is
          ∙ append_assoc (after_finish h.restore h.before) h.since (c ∷ []);
    }
    next ss (Executes commands restore) h = behind_run ss (Executes commands restore) restore refl (pending-push ss (Executes commands restore))
    next ss Flushes h = behind_run ss Flushes true refl (pending-push ss Flushes)

kept_queries : (restore : Bool) (before cs : List Command) → queries_open (after_finish restore before ++ cs) ≡ queries_open cs
kept_queries true before cs = refl
kept_queries false before cs = refl

kept_issues : (restore : Bool) (before cs : List Command) → open_after (after_finish restore before ++ cs) ≡ open_after cs
kept_issues true before cs = refl
kept_issues false before cs = refl

kept_begun : (q : ℕ) (restore : Bool) (before cs : List Command) → last_begun q (after_finish restore before ++ cs) ≡ last_begun q cs
kept_begun q true before cs = refl
kept_begun q false before cs = refl

kept_items : (restore : Bool) (before : List Command) → items (after_finish restore before) ≡ []
kept_items true before = refl
kept_items false before = refl

-- ---- the pending list, where no query was open at the last run

-- it has the open queries,
pub queries_agree : (steps : List Step) → open_now (settled steps) ≡ [] → queries_open (pending steps) ≡ open_now steps
queries_agree steps h =
    let s = split steps in
    ap queries_open s.pending_is ∙ kept_queries s.restore s.before s.since
    ∙ sym (ap queries_open s.run_is ∙ queries_open-behind (all_run (settled steps)) s.since h)

-- the open issues, with numbers of its own,
pub issues_agree : (steps : List Step) → open_now (settled steps) ≡ [] → open_after (all_run steps) ≡ map (λ k. issues_begun (settled steps) + k) (open_after (pending steps))
issues_agree steps h =
    let s = split steps in
    ap open_after s.run_is ∙ open_after-behind (all_run (settled steps)) s.since h
    ∙ ap (map (λ k. issues_begun (settled steps) + k)) (sym (ap open_after s.pending_is ∙ kept_issues s.restore s.before s.since))

-- and the last issues
pub last_agrees : (steps : List Step) (q : ℕ) → last_issue q steps ≡ last_behind (issues_begun (settled steps)) (last_issue q (settled steps)) (last_begun q (pending steps))
last_agrees steps q =
    let s = split steps in
    ap (last_begun q) s.run_is ∙ last_begun-append q (all_run (settled steps)) s.since
    ∙ ap (last_behind (issues_begun (settled steps)) (last_issue q (settled steps))) (sym (ap (last_begun q) s.pending_is ∙ kept_begun q s.restore s.before s.since))

abbrev ItemsAgree : List Step → Type 0
ItemsAgree steps = open_now (settled steps) ≡ [] → items_of_session steps ≡ items_of_session (settled steps) ++ map (renumbered (issues_begun (settled steps))) (items (pending steps))

items_agree : (steps : List Step) → ItemsAgree steps
items_agree steps = by_steps ItemsAgree (λ h. refl) next steps
  where
    behind_run : (ss : List Step) (s : Step) (restore : Bool) → is_run s ≡ true → pending (ss ++ s ∷ []) ≡ after_finish restore (all_seen ss) → ItemsAgree (ss ++ s ∷ [])
    behind_run ss s restore is kept h =
        let after : List Step = ss ++ s ∷ [] in
        sym (append-nil (items_of_session after))
        ∙ ap (λ l. items_of_session l ++ []) (sym (settled-run ss s is))
        ∙ ap (λ l. items_of_session (settled after) ++ map (renumbered (issues_begun (settled after))) l) (sym (ap items kept ∙ kept_items restore (all_seen ss)))

    next : (ss : List Step) (s : Step) → ItemsAgree ss → ItemsAgree (ss ++ s ∷ [])
    next ss (Records c) more h =
        let none : open_now (settled ss) ≡ [] = ap open_now (sym (settled-record ss c)) ∙ h in
        let front : List Item = items_of_session (settled ss) in
        let n : ℕ = issues_begun (settled ss) in
        let list : List Command = pending ss in
        let last : List Item = items_at (settings_after list) (open_after list) c in
        items_of_session-push ss (Records c)
        ∙ ap (λ l. l ++ items_at (settings_now ss) (open_after (all_run ss)) c) (more none)
        ∙ append_assoc front (map (renumbered n) (items list)) (items_at (settings_now ss) (open_after (all_run ss)) c)
        ∙ ap (λ s. front ++ (map (renumbered n) (items list) ++ items_at s (open_after (all_run ss)) c)) (sym (settings_agree ss))
        ∙ ap (λ o. front ++ (map (renumbered n) (items list) ++ items_at (settings_after list) o c)) (issues_agree ss none)
        ∙ ap (λ l. front ++ (map (renumbered n) (items list) ++ l)) (items_at-renumbered n (settings_after list) (open_after list) c)
        ∙ ap (λ l. front ++ l) (sym (map-append (renumbered n) (items list) last))
        ∙ ap (λ l. front ++ map (renumbered n) l) (sym (items-push list c))
        ∙ ap (λ l. front ++ map (renumbered n) (items l)) (sym (pending-push ss (Records c)))
        ∙ ap (λ l. items_of_session l ++ map (renumbered (issues_begun l)) (items (pending (ss ++ Records c ∷ [])))) (sym (settled-record ss c))
    next ss (Executes commands restore) more h = behind_run ss (Executes commands restore) restore refl (pending-push ss (Executes commands restore)) h
    next ss Flushes more h = behind_run ss Flushes true refl (pending-push ss Flushes) h

-- ---- in which run an issue lies

-- the pending commands behind the steps up to the last run
pub pending_follows : (steps : List Step) → open_now (settled steps) ≡ [] → Follows (issues_begun (settled steps)) (items_of_session (settled steps)) (pending steps) (items_of_session steps)
pending_follows steps h = follows _ _ _ _ (λ issue le. session_without issue (settled steps) le) (items_agree steps h)

-- an executed list behind the steps before it
pub execution_follows : (steps : List Step) (list : List Command) (restore : Bool) → open_now steps ≡ [] → Follows (issues_begun steps) (items_of_session steps) list (items_of_session (steps ++ Executes list restore ∷ []))
execution_follows steps list restore h =
    follows _ _ _ _ (λ issue le. session_without issue steps le)
    (items_of_session-push steps (Executes list restore) ∙ ap (λ l. items_of_session steps ++ l) (renumbers (all_run steps) list h).items_are)

-- ---- pixels and results of steps of which each draw and clear is performed

abbrev pub pixels_of : List Step → ℕ → ℕ → Pixel
pixels_of steps x y = after_items (items_of_session steps) x y opening

abbrev pub count_of : Size → List Step → ℕ → Option ℕ
count_of size steps q = counted_or None (last_issue q steps) (items_of_session steps) size (λ x y. opening)

pub pending_result : (size : Size) (steps : List Step) (q : ℕ) → open_now (settled steps) ≡ [] → count_of size steps q ≡ result_after size (pending steps) (pixels_of (settled steps)) q (count_of size (settled steps) q)
pending_result size steps q h =
    ap (λ o. counted_or None o (items_of_session steps) size (λ x y. opening)) (last_agrees steps q)
    ∙ result_follows _ _ _ _ (pending_follows steps h) size (λ x y. opening) q (last_issue q (settled steps)) (λ j is. last_begun_below q (all_run (settled steps)) j is)

pub execution_result : (size : Size) (steps : List Step) (list : List Command) (restore : Bool) (q : ℕ) → open_now steps ≡ [] → count_of size (steps ++ Executes list restore ∷ []) q ≡ result_after size list (pixels_of steps) q (count_of size steps q)
execution_result size steps list restore q h =
    ap (λ o. counted_or None o (items_of_session (steps ++ Executes list restore ∷ [])) size (λ x y. opening))
    (ap (last_begun q) (all_run-push steps (Executes list restore)) ∙ last_begun-append q (all_run steps) list)
    ∙ result_follows _ _ _ _ (execution_follows steps list restore h) size (λ x y. opening) q (last_issue q steps) (λ j is. last_begun_below q (all_run steps) j is)
