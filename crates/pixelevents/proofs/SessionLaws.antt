-- What each run of a session adds to the history of a pixel.
use Rattle.std.proofs.Common.{◌≡◌, ◌∙◌, ap, sym, subst, refl, arith, ℕ, ◌+◌, ◌<◌, Bool, List, [], ◌∷◌, ◌++◌, length, map, length-append, append-nil}
use Rattle.std.proofs.lemmas.List.{length-map}
use Rattle.gfxspec.specs.declared.TheConstants.{QUERY_LIMIT}
use Rattle.gfxspec.specs.declared.geometry.Size.{Size}
use Rattle.gfxspec.specs.declared.pixel.Pixel.{Pixel}
use Rattle.gfxspec.specs.Items.{Item, Drawn, ColorCleared, DepthStencilCleared, after_item, after_items, opening}
use Rattle.gfxspec.specs.Commands.{Command}
use Rattle.gfxspec.specs.Recorded.{items, queries_open}
use Rattle.gfxspec.specs.Accepted.{AreAccepted}
use Rattle.gfxspec.specs.Session as session
use Rattle.gfxspec.specs.Session.{Step, Records, Executes, Flushes, items_of_session, open_now}
use Rattle.gfxspec.specs.Predication.{performed, result_of, results_behind, performed_session}
use Rattle.meaning.specs.Contexts.{Context, performed_pending, performed_next, shown, answered, result_at}
use Rattle.meaning.specs.Renumbering.{renumbered}
use Rattle.meaning.specs.Standing.{settled, Stands, Follows}
use Rattle.meaning.proofs.Sessions.{items_of_session-push}
use Rattle.meaning.proofs.Standing.{queries_agree, pending_follows, execution_follows}
use Rattle.meaning.proofs.Predicates.{performed_same}
use Rattle.meaning.proofs.Performing.{performed_session-push, open_left, settled_left, result_settled, pending_left}
use Rattle.meaning.proofs.Contexts.{shows}
use Rattle.meaning.proofs.Flushing.{performed-flush}
use Rattle.pixelevents.specs.History.{events_at, history_from}
use Rattle.pixelevents.specs.Sessions.{performed_items, session_history, GrowsBy}
use Rattle.pixelevents.proofs.HistoryLaws.{follow}

-- other numbers of issues change no history
pub renumber : (n k : ℕ) (is : List Item) (x y : ℕ) (old : Pixel) → history_from k (map (renumbered n) is) x y old ≡ history_from k is x y old
renumber n k [] x y old = refl
renumber n k (Drawn p s o ∷ is) x y old =
    ap (λ es. events_at k (Drawn p s o) x y old ++ es) (renumber n (k + 1) is x y (after_item (Drawn p s o) x y old))
renumber n k (ColorCleared c ∷ is) x y old =
    ap (λ es. events_at k (ColorCleared c) x y old ++ es) (renumber n (k + 1) is x y (after_item (ColorCleared c) x y old))
renumber n k (DepthStencilCleared d t ∷ is) x y old =
    ap (λ es. events_at k (DepthStencilCleared d t) x y old ++ es) (renumber n (k + 1) is x y (after_item (DepthStencilCleared d t) x y old))

none_before : (k : ℕ) → 0 + k ≡ k
none_before k = omega arith

-- a list behind others adds its own history
follows_on : (n : ℕ) (front : List Item) (list : List Command) (whole : List Item) (x y : ℕ) (old : Pixel) → Follows n front list whole → history_from 0 whole x y old ≡ history_from 0 front x y old ++ history_from (length front) (items list) x y (after_items front x y old)
follows_on n front list whole x y old f =
    ap (λ is. history_from 0 is x y old) f.items_are
    ∙ follow 0 front (map (renumbered n) (items list)) x y old
    ∙ ap (λ k. history_from 0 front x y old ++ history_from k (map (renumbered n) (items list)) x y (after_items front x y old)) (none_before (length front))
    ∙ ap (λ es. history_from 0 front x y old ++ es) (renumber n (length front) (items list) x y (after_items front x y old))

many_more : (n : ℕ) (front : List Item) (list : List Command) (whole : List Item) → Follows n front list whole → length whole ≡ length front + length (items list)
many_more n front list whole f =
    ap length f.items_are ∙ length-append front (map (renumbered n) (items list)) ∙ ap (λ k. length front + k) (length-map (items list) (renumbered n))

grows : (size : Size) (x y : ℕ) (before behind : List Step) (n : ℕ) (front : List Item) (list : List Command) (whole : List Item) (own : List Command) (pixel : Pixel) → front ≡ performed_items size before → whole ≡ performed_items size behind → own ≡ list → pixel ≡ after_items (performed_items size before) x y opening → Follows n front list whole → GrowsBy size x y before behind (items own) pixel
grows size x y before behind n front list whole own pixel a b c d f =
    let g : Follows n (performed_items size before) own (performed_items size behind) = subst (λ l. Follows n (performed_items size before) l (performed_items size behind)) (sym c) (subst (λ w. Follows n (performed_items size before) list w) b (subst (λ u. Follows n u list whole) a f)) in
    record {
      events = follows_on n (performed_items size before) own (performed_items size behind) x y opening g
          ∙ ap (λ p. session_history size before x y ++ history_from (length (performed_items size before)) (items own) x y p) (sym d);
      items = many_more n (performed_items size before) own (performed_items size behind) g;
      left = g.pixel x y opening ∙ ap (after_items (items own) x y) (sym d);
    }

pub flush_keeps_items : (size : Size) (steps : List Step) → performed_items size (steps ++ Flushes ∷ []) ≡ performed_items size steps
flush_keeps_items size steps =
    ap items_of_session (performed_session-push size steps Flushes)
    ∙ items_of_session-push (performed_session size steps) Flushes ∙ append-nil (items_of_session (performed_session size steps))

pub flush_adds_nothing : (size : Size) (before after : List Step) (x y : ℕ) → session_history size (before ++ Flushes ∷ after) x y ≡ session_history size (before ++ after) x y
flush_adds_nothing size before after x y = ap (λ is. history_from 0 is x y opening) (performed-flush size before after)

module _ (size : Size) (steps : List Step) (c : Context) (h : Stands size steps c) where
  abbrev done : List Step
  done = performed_session size steps

  none_open_done : open_now (settled done) ≡ []
  none_open_done = ap open_now (settled_left size steps) ∙ open_left size (settled steps) ∙ h.none_open

  list_is : performed_pending c ≡ session.pending done
  list_is =
      performed_same (λ q. result_of (result_at c.results q)) (results_behind size (performed_session size (settled steps))) c.pending h.accepted
      (λ q l. ap result_of (h.results q l) ∙ sym (result_settled size (performed_session size (settled steps)) q (open_left size (settled steps) ∙ h.none_open)))
      ∙ ap (performed (results_behind size (performed_session size (settled steps)))) h.pending
      ∙ sym (pending_left size steps h.none_open (subst AreAccepted h.pending h.accepted))

  -- how many items what is pending adds
  pub pending_counts : length (performed_items size steps) ≡ length (performed_items size (settled steps)) + length (items (performed_pending c))
  pending_counts =
      many_more _ (items_of_session (settled done)) (session.pending done) (items_of_session done) (pending_follows done none_open_done)
      ∙ ap (λ is. length is + length (items (session.pending done))) (ap items_of_session (settled_left size steps))
      ∙ ap (λ l. length (performed_items size (settled steps)) + length (items l)) (sym list_is)

  pub pending_adds : (x y : ℕ) → x < size.width → y < size.height → GrowsBy size x y (settled steps) steps (items (performed_pending c)) (c.stored x y)
  pending_adds x y w v =
      grows size x y (settled steps) steps _ (items_of_session (settled done)) (session.pending done) (items_of_session done) (performed_pending c) (c.stored x y)
      (ap items_of_session (settled_left size steps)) refl list_is (h.pixels x y w v) (pending_follows done none_open_done)

  none_open_now : queries_open c.pending ≡ [] → open_now steps ≡ []
  none_open_now none = sym (queries_agree steps h.none_open) ∙ sym (ap queries_open h.pending) ∙ none

  -- with no query open the results that are answered are those behind the steps
  pub answers_told : (q : ℕ) → q < QUERY_LIMIT → queries_open c.pending ≡ [] → result_of (answered size c q) ≡ results_behind size done q
  answers_told q l none = ap result_of ((shows size steps c h).answers q l) ∙ sym (result_settled size done q (open_left size steps ∙ none_open_now none))

  -- how many items an execution adds
  pub execution_counts : (list : List Command) (restore : Bool) → queries_open c.pending ≡ [] → AreAccepted list → length (performed_items size (steps ++ Executes list restore ∷ [])) ≡ length (performed_items size steps) + length (items (performed_next size c list))
  execution_counts list restore none accepted =
      let left : List Command = performed (results_behind size done) list in
      let same : performed_next size c list ≡ left = performed_same (λ q. result_of (answered size c q)) (results_behind size done) list accepted (λ q l. answers_told q l none) in
      ap (λ ss. length (items_of_session ss)) (performed_session-push size steps (Executes list restore))
      ∙ many_more _ (items_of_session done) left (items_of_session (done ++ Executes left restore ∷ [])) (execution_follows done left restore (open_left size steps ∙ none_open_now none))
      ∙ ap (λ l. length (performed_items size steps) + length (items l)) (sym same)

  pub execution_adds : (list : List Command) (restore : Bool) (x y : ℕ) → queries_open c.pending ≡ [] → AreAccepted list → x < size.width → y < size.height → GrowsBy size x y steps (steps ++ Executes list restore ∷ []) (items (performed_next size c list)) (shown c x y)
  execution_adds list restore x y none accepted w v =
      let left : List Command = performed (results_behind size done) list in
      let open_none : open_now steps ≡ [] = sym (queries_agree steps h.none_open) ∙ sym (ap queries_open h.pending) ∙ none in
      let none_done : open_now done ≡ [] = open_left size steps ∙ open_none in
      let left_is : performed_next size c list ≡ left = performed_same (λ q. result_of (answered size c q)) (results_behind size done) list accepted
      (λ q l. ap result_of ((shows size steps c h).answers q l) ∙ sym (result_settled size done q none_done)) in
      grows size x y steps (steps ++ Executes list restore ∷ []) _ (items_of_session done) left (items_of_session (done ++ Executes left restore ∷ [])) (performed_next size c list) (shown c x y)
      refl (ap items_of_session (sym (performed_session-push size steps (Executes list restore)))) left_is ((shows size steps c h).pixels x y w v) (execution_follows done left restore none_done)
