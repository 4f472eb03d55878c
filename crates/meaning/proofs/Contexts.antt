-- What a context shows, and what one more step changes of it.
use Rattle.std.proofs.Common.{◌≡◌, ◌≢◌, ◌∙◌, ap, sym, subst, refl, arith, ℕ, ◌+◌, ◌<◌, Bool, true, false, cond, List, [], ◌∷◌, ◌++◌, length}
use Rattle.std.specs.Prelude.{Option, Some, None, is_none, ◌==◌, nat_le, slice_set}
use Rattle.std.proofs.lemmas.Bool.Decides.{nat_tests}
use Rattle.std.proofs.lemmas.List.{append-nil, length-set, get_or-set_same, get_or-set_other}
use Rattle.gfxspec.specs.declared.TheConstants.{QUERY_LIMIT}
use Rattle.gfxspec.specs.declared.error.GfxError.TheVariants.{QueryOpen, QueryNumber, NotIssued}
use Rattle.gfxspec.specs.declared.geometry.Size.{Size}
use Rattle.gfxspec.specs.declared.pixel.Pixel.{Pixel}
use Rattle.gfxspec.specs.Items.{Item, after_items, count_at, issue_count, opening}
use Rattle.gfxspec.specs.Commands.{Command, Begin, Kept}
use Rattle.gfxspec.specs.Recorded.{settings_after, queries_open, issues, items, after_finish}
use Rattle.gfxspec.specs.Refusals.{first_row, command_rows, list_rows, query_rows, some_open}
use Rattle.gfxspec.specs.Accepted.{IsAccepted, AreAccepted}
use Rattle.gfxspec.specs.Session as session
use Rattle.gfxspec.specs.Session.{Step, Records, Executes, Flushes, all_seen, all_run, items_of_session, open_now, settings_now, last_issue, last_of, begun_from}
use Rattle.gfxspec.specs.Predication.{performed, result_of, results_behind, performed_session}
use Rattle.meaning.specs.Contexts.{Context, pixels_after, last_begun, counted_or, result_after, result_at, with_counts, performed_pending, shown, answered, performed_next, HasRun}
use Rattle.meaning.specs.Standing.{session_pixels, session_result, settled, Stands, Shows, IsNew}
use Rattle.meaning.proofs.Sums.{same_sums}
use Rattle.meaning.proofs.Sessions.{items_of_session-push, all_run-push, pending-push, settings_agree}
use Rattle.meaning.proofs.Issues.{queries_open-behind}
use Rattle.meaning.proofs.Standing.{settled-record, settled-run, queries_agree, pixels_of, count_of, pending_follows, execution_follows, pending_result, execution_result}
use Rattle.meaning.proofs.Growing.{accepted-push}
use Rattle.meaning.proofs.Accepting.{sound_after}
use Rattle.meaning.proofs.Performed.{performed_alike}
use Rattle.meaning.proofs.Predicates.{performed_same}
use Rattle.meaning.proofs.Performing.{performed_session-push, open_left, last_left, settled_left, result_settled, pending_left}

-- the result is the same over the same pixels of the target
pub result_same : (size : Size) (list : List Command) (p r : ℕ → ℕ → Pixel) (q : ℕ) (a b : Option ℕ) → ((x y : ℕ) → x < size.width → y < size.height → p x y ≡ r x y) → a ≡ b → result_after size list p q a ≡ result_after size list r q b
result_same size list p r q a b same e = by (last_begun q list)
  where
    by : (o : Option ℕ) → counted_or a o (items list) size p ≡ counted_or b o (items list) size r
    by None = e
    by (Some k) = ap (λ n. Some n) (same_sums size.height _ _ (λ y h. same_sums size.width _ _ (λ x w. ap (count_at k (items list) x y) (same x y w h))))

none_counted : (last : Option ℕ) (is : List Item) (size : Size) (pixels : ℕ → ℕ → Pixel) → is_none (counted_or None last is size pixels) ≡ is_none last
none_counted None is size pixels = refl
none_counted (Some k) is size pixels = refl

-- ---- results, stored issue by issue

last_counted : (size : Size) (is : List Item) (pixels : ℕ → ℕ → Pixel) (k : ℕ) (later : List ℕ) (old : Option ℕ) → counted_or (Some (issue_count k is size.width size.height pixels)) (last_of later) is size pixels ≡ counted_or old (last_of (k ∷ later)) is size pixels
last_counted size is pixels k [] old = refl
last_counted size is pixels k (j ∷ later) old = refl

counts_stored : (size : Size) (is : List Item) (pixels : ℕ → ℕ → Pixel) (q k : ℕ) (cs : List Command) (results : List (Option ℕ)) → q < length results
    → result_at (with_counts k (λ j. issue_count j is size.width size.height pixels) (issues cs) results) q ≡ counted_or (result_at results q) (last_of (begun_from q k cs)) is size pixels
counts_stored size is pixels q k [] results l = refl
counts_stored size is pixels q k (Begin p ∷ cs) results l =
    counts_stored size is pixels q (k + 1) cs (slice_set results p mine) (subst (λ n. q < n) (sym (length-set results p mine)) l)
    ∙ chosen (p == q) refl
  where
    mine : Option ℕ
    mine = Some (issue_count k is size.width size.height pixels)

    later : List ℕ
    later = begun_from q (k + 1) cs

    same : (p == q) ≡ true → p ≡ q
    same e = grind (arith, nat_tests)

    apart : (p == q) ≡ false → q ≢ p
    apart e = grind (arith, nat_tests)

    chosen : (b : Bool) → (p == q) ≡ b → counted_or (result_at (slice_set results p mine) q) (last_of later) is size pixels ≡ counted_or (result_at results q) (last_of (cond b (k ∷ later) later)) is size pixels
    chosen true e =
        ap (λ o. counted_or o (last_of later) is size pixels)
        (ap (λ n. result_at (slice_set results n mine) q) (same e) ∙ get_or-set_same results q mine None l)
        ∙ last_counted size is pixels k later (result_at results q)
    chosen false e = ap (λ o. counted_or o (last_of later) is size pixels) (get_or-set_other results p q mine None (apart e))
counts_stored size is pixels q k (c ∷ cs) results l = counts_stored size is pixels q k cs results l

-- the counts of a list's issues, stored in the order of its issues, are the results after it
pub results_stored : (size : Size) (list : List Command) (pixels : ℕ → ℕ → Pixel) (results : List (Option ℕ)) (q : ℕ) → q < length results
    → result_at (with_counts 0 (λ k. issue_count k (items list) size.width size.height pixels) (issues list) results) q ≡ result_after size list pixels q (result_at results q)
results_stored size list pixels results q l = counts_stored size (items list) pixels q 0 list results l

-- the same, where the counts are those of the commands that are performed
pub performed_results_stored : (size : Size) (told : ℕ → Bool) (list : List Command) (pixels : ℕ → ℕ → Pixel) (results : List (Option ℕ)) (q : ℕ) → q < length results
    → result_at (with_counts 0 (λ k. issue_count k (items (performed told list)) size.width size.height pixels) (issues list) results) q ≡ result_after size (performed told list) pixels q (result_at results q)
performed_results_stored size told list pixels results q l =
    ap (λ ks. result_at (with_counts 0 (λ k. issue_count k (items (performed told list)) size.width size.height pixels) ks results) q) (sym (performed_alike told list).issues_are)
    ∙ results_stored size (performed told list) pixels results q l

-- ---- a run, as the context sees it

-- what is kept behind a run is performed as it stands
kept_performed : (restore : Bool) (results : ℕ → Bool) (cs : List Command) → performed results (after_finish restore cs) ≡ after_finish restore cs
kept_performed true results cs = refl
kept_performed false results cs = refl

pending_behind : (size : Size) (list : List Command) (restore : Bool) (c d : Context) → HasRun size list restore c d → performed_pending d ≡ after_finish restore c.pending
pending_behind size list restore c d h = ap (performed (λ q. result_of (result_at d.results q))) h.pending ∙ kept_performed restore (λ q. result_of (result_at d.results q)) c.pending

-- what a context shows behind a run is what the list makes of what it showed
pub shown_behind : (size : Size) (list : List Command) (restore : Bool) (c d : Context) → HasRun size list restore c d → (x y : ℕ) → x < size.width → y < size.height → shown d x y ≡ pixels_after (performed_next size c list) (shown c) x y
shown_behind size list restore c d h x y w v = ap (λ p. pixels_after p d.stored x y) (pending_behind size list restore c d h) ∙ kept restore ∙ h.pixels x y w v
  where
    kept : (b : Bool) → pixels_after (after_finish b c.pending) d.stored x y ≡ d.stored x y
    kept true = refl
    kept false = refl

pub answered_behind : (size : Size) (list : List Command) (restore : Bool) (c d : Context) → HasRun size list restore c d → (q : ℕ) → q < QUERY_LIMIT → answered size d q ≡ result_after size (performed_next size c list) (shown c) q (answered size c q)
answered_behind size list restore c d h q l = ap (λ p. result_after size p d.stored q (result_at d.results q)) (pending_behind size list restore c d h) ∙ kept restore ∙ h.results q l
  where
    kept : (b : Bool) → result_after size (after_finish b c.pending) d.stored q (result_at d.results q) ≡ result_at d.results q
    kept true = refl
    kept false = refl

-- what a query answers is asked by the context as by the session
pub query_rows_agree : (opened : List ℕ) (own last : Option ℕ) (q : ℕ) → (q < QUERY_LIMIT → is_none own ≡ is_none last) → first_row (query_rows opened own q) ≡ first_row (query_rows opened last q)
query_rows_agree opened own last q same = by (nat_le QUERY_LIMIT q) refl
  where
    below : nat_le QUERY_LIMIT q ≡ false → q < QUERY_LIMIT
    below e = grind (arith, nat_tests)

    by : (b : Bool) → nat_le QUERY_LIMIT q ≡ b → cond b (Some QueryNumber) (first_row ((QueryOpen, some_open opened) ∷ (NotIssued, is_none own) ∷ [])) ≡ cond b (Some QueryNumber) (first_row ((QueryOpen, some_open opened) ∷ (NotIssued, is_none last) ∷ []))
    by true e = refl
    by false e = ap (λ b. first_row ((QueryOpen, some_open opened) ∷ (NotIssued, b) ∷ [])) (same (below e))

-- ---- what stands behind the steps

pub stands_new : (size : Size) (c : Context) → IsNew size c → Stands size [] c
stands_new size c h = record { pixels = h.pixels; results = h.results; none_open = refl; pending = h.pending; accepted = subst AreAccepted (sym h.pending) tt }

module _ (size : Size) (steps : List Step) (c : Context) (h : Stands size steps c) where
  -- the steps as they are performed
  abbrev done : List Step
  done = performed_session size steps

  none_open_done : open_now (settled done) ≡ []
  none_open_done = ap open_now (settled_left size steps) ∙ open_left size (settled steps) ∙ h.none_open

  stored_is : (x y : ℕ) → x < size.width → y < size.height → c.stored x y ≡ pixels_of (settled done) x y
  stored_is x y w v = h.pixels x y w v ∙ ap (λ ss. pixels_of ss x y) (sym (settled_left size steps))

  results_are : (q : ℕ) → q < QUERY_LIMIT → result_at c.results q ≡ count_of size (settled done) q
  results_are q l = h.results q l ∙ ap (λ ss. count_of size ss q) (sym (settled_left size steps))

  list_is : performed_pending c ≡ session.pending done
  list_is =
      performed_same (λ q. result_of (result_at c.results q)) (results_behind size (performed_session size (settled steps))) c.pending h.accepted
      (λ q l. ap result_of (h.results q l) ∙ sym (result_settled size (performed_session size (settled steps)) q (open_left size (settled steps) ∙ h.none_open)))
      ∙ ap (performed (results_behind size (performed_session size (settled steps)))) h.pending
      ∙ sym (pending_left size steps h.none_open (subst AreAccepted h.pending h.accepted))

  pixels_are : (x y : ℕ) → x < size.width → y < size.height → shown c x y ≡ session_pixels size steps x y
  pixels_are x y w v =
      ap (λ p. pixels_after p c.stored x y) list_is
      ∙ ap (after_items (items (session.pending done)) x y) (stored_is x y w v)
      ∙ sym ((pending_follows done none_open_done).pixel x y opening)

  answers_are : (q : ℕ) → q < QUERY_LIMIT → answered size c q ≡ session_result size steps q
  answers_are q l =
      ap (λ p. result_after size p c.stored q (result_at c.results q)) list_is
      ∙ result_same size (session.pending done) c.stored (pixels_of (settled done)) q _ _ stored_is (results_are q l)
      ∙ sym (pending_result size done q none_open_done)

  pub shows : Shows size steps c
  shows = record {
    pixels = pixels_are;
    answers = answers_are;
    issued = λ q l. ap is_none (answers_are q l) ∙ none_counted (last_issue q done) (items_of_session done) size (λ x y. opening) ∙ ap is_none (last_left size steps q);
    settings = ap settings_after h.pending ∙ settings_agree steps;
    queries = ap queries_open h.pending ∙ queries_agree steps h.none_open;
  }

  -- a call's rows are those of the pending list
  pub rows_agree : (k : Command) → list_rows c.pending k ≡ command_rows (session.pending steps) (settings_now steps) (open_now steps) k
  rows_agree k =
      ap (λ p. command_rows p (settings_after c.pending) (queries_open c.pending) k) h.pending
      ∙ ap (λ s. command_rows (session.pending steps) s (queries_open c.pending) k) shows.settings
      ∙ ap (λ o. command_rows (session.pending steps) (settings_now steps) o k) shows.queries

  -- one more recorded command
  pub stands_recorded : (k : Command) → IsAccepted c.pending k → Stands size (steps ++ Records k ∷ []) (record c { pending = c.pending ++ k ∷ [] })
  stands_recorded k accepted =
      let same = sym (settled-record steps k) in
      record {
        pixels = λ x y w v. h.pixels x y w v ∙ ap (λ ss. session_pixels size ss x y) same;
        results = λ q l. h.results q l ∙ ap (λ ss. session_result size ss q) same;
        none_open = sym (ap open_now same) ∙ h.none_open;
        pending = ap (λ p. p ++ k ∷ []) h.pending ∙ sym (pending-push steps (Records k));
        accepted = accepted-push c.pending k h.accepted accepted;
      }

  none_now : queries_open c.pending ≡ [] → open_now steps ≡ []
  none_now none = sym (queries_agree steps h.none_open) ∙ sym (ap queries_open h.pending) ∙ none

  kept : (restore : Bool) → after_finish restore c.pending ≡ after_finish restore (all_seen steps)
  kept true = ap (λ s. Kept s ∷ []) (ap settings_after h.pending ∙ settings_agree steps)
  kept false = refl

  kept_accepted : (restore : Bool) → AreAccepted (after_finish restore c.pending)
  kept_accepted true = ((refl, sound_after c.pending h.accepted), tt)
  kept_accepted false = tt

  -- an execution
  pub stands_executed : (list : List Command) (restore : Bool) (d : Context) → queries_open c.pending ≡ [] → queries_open list ≡ [] → AreAccepted list → HasRun size list restore c d → Stands size (steps ++ Executes list restore ∷ []) d
  stands_executed list restore d none closed accepted r =
      let after : List Step = steps ++ Executes list restore ∷ [] in
      let left : List Command = performed (results_behind size done) list in
      let same = sym (settled-run steps (Executes list restore) refl) in
      let open_none = none_now none in
      let none_done : open_now done ≡ [] = open_left size steps ∙ open_none in
      let pushed : done ++ Executes left restore ∷ [] ≡ performed_session size after = sym (performed_session-push size steps (Executes list restore)) in
      let left_is : performed_next size c list ≡ left =
      performed_same (λ q. result_of (answered size c q)) (results_behind size done) list accepted
      (λ q l. ap result_of (answers_are q l) ∙ sym (result_settled size done q none_done)) in
      record {
        pixels = λ x y w v.
            r.pixels x y w v
            ∙ ap (λ l. pixels_after l (shown c) x y) left_is
            ∙ ap (after_items (items left) x y) (pixels_are x y w v)
            ∙ sym ((execution_follows done left restore none_done).pixel x y opening)
            ∙ ap (λ ss. pixels_of ss x y) pushed
            ∙ ap (λ ss. session_pixels size ss x y) same;
        results = λ q l.
            r.results q l
            ∙ ap (λ cs. result_after size cs (shown c) q (answered size c q)) left_is
            ∙ result_same size left (shown c) (session_pixels size steps) q _ _ pixels_are (answers_are q l)
            ∙ sym (execution_result size done left restore q none_done)
            ∙ ap (λ ss. count_of size ss q) pushed
            ∙ ap (λ ss. session_result size ss q) same;
        none_open =
            sym (ap open_now same) ∙ ap queries_open (all_run-push steps (Executes list restore))
            ∙ queries_open-behind (all_run steps) list open_none ∙ closed;
        pending = r.pending ∙ kept restore ∙ sym (pending-push steps (Executes list restore));
        accepted = subst AreAccepted (sym r.pending) (kept_accepted restore);
      }

  -- a call that runs the pending commands and is nothing else
  pub stands_flushed : (d : Context) → queries_open c.pending ≡ [] → HasRun size [] true c d → Stands size (steps ++ Flushes ∷ []) d
  stands_flushed d none r =
      let after : List Step = steps ++ Flushes ∷ [] in
      let same = sym (settled-run steps Flushes refl) in
      let pushed : done ++ Flushes ∷ [] ≡ performed_session size after = sym (performed_session-push size steps Flushes) in
      let items_same : items_of_session done ≡ items_of_session (done ++ Flushes ∷ []) = sym (items_of_session-push done Flushes ∙ append-nil (items_of_session done)) in
      let done_same : all_run done ≡ all_run (done ++ Flushes ∷ []) = sym (all_run-push done Flushes ∙ append-nil (all_run done)) in
      let run_same : all_run steps ≡ all_run after = sym (all_run-push steps Flushes ∙ append-nil (all_run steps)) in
      record {
        pixels = λ x y w v.
            r.pixels x y w v ∙ pixels_are x y w v ∙ ap (λ is. after_items is x y opening) items_same
            ∙ ap (λ ss. pixels_of ss x y) pushed
            ∙ ap (λ ss. session_pixels size ss x y) same;
        results = λ q l.
            r.results q l ∙ answers_are q l
            ∙ ap (λ is. counted_or None (last_issue q done) is size (λ x y. opening)) items_same
            ∙ ap (λ cs. counted_or None (last_begun q cs) (items_of_session (done ++ Flushes ∷ [])) size (λ x y. opening)) done_same
            ∙ ap (λ ss. count_of size ss q) pushed
            ∙ ap (λ ss. session_result size ss q) same;
        none_open = sym (ap open_now same) ∙ sym (ap queries_open run_same) ∙ none_now none;
        pending = r.pending ∙ kept true ∙ sym (pending-push steps Flushes);
        accepted = subst AreAccepted (sym r.pending) (kept_accepted true);
      }
