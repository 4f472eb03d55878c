-- A trace beside the runs of a context: runs behind one another, and what is pending over what is stored.
use Rattle.std.proofs.Common.{◌≡◌, ◌∙◌, inl, inr, sym, ap, subst, refl, ℕ, ◌+◌, ◌<◌, Bool, true, false, List, [], ◌∷◌, ◌++◌, map, Option, None}
use Rattle.std.specs.Prelude.{All, if◌then◌else◌, Result, Ok, Err, OnOk, IfOk}
use Rattle.gfxspec.specs.declared.geometry.Size.{Size}
use Rattle.gfxspec.specs.declared.error.GfxError.{GfxError}
use Rattle.gfxspec.specs.declared.error.GfxError.TheVariants.{OutOfMemory}
use Rattle.gfxspec.specs.Items.{after_items}
use Rattle.gfxspec.specs.Commands.{Command}
use Rattle.gfxspec.specs.Recorded.{items, issues, queries_open, settings_after, after_finish}
use Rattle.gfxspec.specs.Session.{Step, Executes, Flushes}
use Rattle.gfxspec.specs.Refusals.{first_row, flush_rows, AnswersBy}
use Rattle.gfxspec.specs.Accepted.{AreAccepted}
use Rattle.gfxspec.specs.Predication.{performed, result_of}
use Rattle.tileblock.specs.Surface.{pixel_of}
use Rattle.meaning.specs.Contexts.{Context, HasRun, result_after, result_at, performed_next, performed_pending}
use Rattle.meaning.specs.Contexts as contexts
use Rattle.meaning.specs.Standing.{Stands}
use Rattle.meaning.proofs.Accepting.{none_open_at_run}
use Rattle.meaning.proofs.Contexts.{result_same, shown_behind, answered_behind, stands_flushed}
use Rattle.meaning.proofs.Predicates.{performed_same}
use Rattle.pixelevents.specs.declared.Event.{Event}
use Rattle.pixelevents.specs.declared.Origin.{Origin}
use Rattle.pixelevents.specs.declared.NamedEvent.{NamedEvent}
use Rattle.pixelevents.specs.Named.{named_by}
use Rattle.pixelevents.specs.Origins.{AreNamed, told}
use Rattle.pixelevents.specs.Places.{StandsAt}
use Rattle.pixelhistory.specs.declared.session.SessionTrace.{SessionTrace}
use Rattle.pixelhistory.specs.declared.session.StepsOf.TheVariants as kinds
use Rattle.pixelhistory.specs.Passing.{Comes, PassesList}
use Rattle.pixelhistory.specs.Standing.{Traces}
use Rattle.pixelhistory.proofs.Standing.{traced_list}
use Rattle.pixelhistory.proofs.Naming.{events_named, names_are, placed}
use Rattle.pixelevents.specs.History.{history_from}
use Rattle.immediate.specs.Held.{Held, Executed, Ran, Enqueues, Stays, MayHaveRun, IsRefused, stored, result_told, context_of}
use Rattle.immediate.specs.Histories.{IsHistory, IsPassed, IsPlaced, placed_event}
use Rattle.immediate.proofs.Drawn.{answers_stay}
use Rattle.immediate.proofs.Settled.{stored_settled}

-- ---- two runs

kept_again : (restore : Bool) (cs ds : List Command) → ds ≡ after_finish true cs → after_finish restore ds ≡ after_finish restore cs
kept_again true cs ds is = ap (after_finish true) is
kept_again false cs ds is = refl

-- the pending commands ran, and then a list behind what they left
pub run_both : (size : Size) (list : List Command) (restore : Bool) (a m b : Context) → AreAccepted list → HasRun size [] true a m → HasRun size list restore m b → HasRun size list restore a b
run_both size list restore a m b accepted h k =
    let left : List Command = performed_next size m list in
    let before : (x y : ℕ) → x < size.width → y < size.height → contexts.shown m x y ≡ contexts.shown a x y = shown_behind size [] true a m h in
    let same : left ≡ performed_next size a list =
    performed_same (λ q. result_of (contexts.answered size m q)) (λ q. result_of (contexts.answered size a q)) list accepted (λ q l. ap result_of (answered_behind size [] true a m h q l)) in
    record {
      pixels = λ x y w v.
          k.pixels x y w v
          ∙ ap (after_items (items left) x y) (before x y w v)
          ∙ ap (λ (cs : List Command). after_items (items cs) x y (contexts.shown a x y)) same;
      results = λ q l.
          k.results q l
          ∙ result_same size left (contexts.shown m) (contexts.shown a) q (contexts.answered size m q) (contexts.answered size a q) before (answered_behind size [] true a m h q l)
          ∙ ap (λ (cs : List Command). result_after size cs (contexts.shown a) q (contexts.answered size a q)) same;
      pending = k.pending ∙ kept_again restore a.pending m.pending h.pending;
    }

pub executed_both : (list : List Command) (restore : Bool) (a m b : Held) → AreAccepted list → Ran [] true a m → Executed list restore m b → Executed list restore a b
executed_both list restore a m b accepted h k = record {
  size = k.size ∙ h.size;
  run = run_both a.surface.size list restore (context_of a) (context_of m) (context_of b) accepted h.run
      (subst (λ (s : Size). HasRun s list restore (context_of m) (context_of b)) h.size k.run);
}

-- what stays behind what was executed
stays_executed : (a m b : Held) → Ran [] true a m → Stays m b → Executed [] true a b
stays_executed a m b h s = record {
  size = s.size ∙ h.size;
  run = record {
    pixels = λ x y w v. s.pixels x y (subst (λ (z : Size). x < z.width) (sym h.size) w) (subst (λ (z : Size). y < z.height) (sym h.size) v) ∙ h.run.pixels x y w v;
    results = λ q l. ap (λ (rs : List (Option ℕ)). result_at rs q) s.results ∙ h.run.results q l;
    pending = s.pending ∙ h.run.pending;
  };
}

left_both : (a m b : Held) → Ran [] true a m → MayHaveRun m b → Executed [] true a b
left_both a m b h (inl s) = stays_executed a m b h s
left_both a m b h (inr e) = executed_both [] true a m b tt h e

-- nothing but memory refuses behind a run
memory_alone : (e : GfxError) (cs ds : List Command) → ds ≡ after_finish true cs → AnswersBy {T = Unit {0}} (flush_rows (queries_open ds)) (Err e) → e ≡ OutOfMemory
memory_alone e cs ds is answer = by (subst (λ (l : List Command). AnswersBy {T = Unit {0}} (flush_rows (queries_open l)) (Err e)) is answer)
  where
    by : AnswersBy {T = Unit {0}} (flush_rows (queries_open (after_finish true cs))) (Err e) → e ≡ OutOfMemory
    by (inl row) = absurd cc
    by (inr rest) = rest.1

refused_both : (e : GfxError) (a m b : Held) → e ≡ OutOfMemory → Ran [] true a m → IsRefused e m b → IsRefused e a b
refused_both e a m b memory h (inl same) = inr (memory, inr (subst (λ (k : Held). Executed [] true a k) (sym same) record { size = h.size; run = h.run }))
refused_both e a m b memory h (inr left) = inr (memory, inr (left_both a m b h left.1))

-- the pending commands were gone past, and then a list was executed by a call of its own, and may wait
pub enqueues_both : (list : List Command) (restore : Bool) (a m b : Held) (r : Result (Unit {0}) GfxError) → AreAccepted list → first_row (flush_rows (queries_open a.pending)) ≡ None → IsPassed a m → Enqueues (flush_rows (queries_open m.pending)) list restore m b r → Enqueues (flush_rows (queries_open a.pending)) list restore a b r
enqueues_both list restore a m b r accepted none (inl same) k = subst (λ (h : Held). Enqueues (flush_rows (queries_open h.pending)) list restore h b r) same.0 k
enqueues_both list restore a m b (Ok done) accepted none (inr h) k = record { answer = none; ok = executed_both list restore a m b accepted h k.ok; err = tt }
enqueues_both list restore a m b (Err e) accepted none (inr h) k =
    let memory = memory_alone e a.pending m.pending h.run.pending k.answer in
    record { answer = inr (none, memory); ok = tt; err = refused_both e a m b memory h k.err }

pub nothing_accepted : AreAccepted []
nothing_accepted = tt

-- the pending commands ran
pub ran_passed : (a m : Held) (r : Result (Unit {0}) GfxError) → OnOk r (Ran [] true a m) → OnOk r (IsPassed a m)
ran_passed a m (Ok done) h = inr h
ran_passed a m (Err e) h = tt

-- where the call was refused before
pub refused_passed : (e : GfxError) (a m b : Held) → e ≡ OutOfMemory → IsPassed a m → b ≡ m → IsRefused e a b
refused_passed e a m b memory (inl same) is = inl (is ∙ same.0)
refused_passed e a m b memory (inr h) is = inr (memory, inr (subst (λ (k : Held). Executed [] true a k) (sym is) record { size = h.size; run = h.run }))

-- a context of which the pending commands begin no query, as if they had run
abbrev flushed : Held → Context
flushed h = record { stored = contexts.shown (context_of h); results = h.results; pending = after_finish true h.pending }

flushed_run : (h : Held) → issues h.pending ≡ [] → HasRun h.surface.size [] true (context_of h) (flushed h)
flushed_run h unissued = record { pixels = λ x y w v. refl; results = λ q l. sym (answers_stay h.surface.size h unissued q); pending = refl }

-- behind the pending commands the trace goes on past a list
pub traced_behind : {A : Type 0} (a m : Held) (steps : List Step) (list : List Command) (restore : Bool) (x y : ℕ) (t u z : SessionTrace A) (count : ℕ) → IsPassed a m → Stands a.surface.size steps (context_of a) → first_row (flush_rows (queries_open a.pending)) ≡ None → AreAccepted list → x < a.surface.size.width → y < a.surface.size.height → Traces a.surface.size (steps ++ Flushes ∷ []) x y t → PassesList (result_told m) list kinds.List x y t u
    → z.trace ≡ u.trace → z.origins ≡ u.origins → z.step ≡ u.step + count → count ≡ (if restore then 0 else 1) → Traces a.surface.size (steps ++ Executes list restore ∷ []) x y z
traced_behind a m steps list restore x y t u z count passed stands accepts accepted w v tr k trace origins step counted = by passed
  where
    none : queries_open a.pending ≡ []
    none = none_open_at_run (queries_open a.pending) accepts

    over : (n : Context) → HasRun a.surface.size [] true (context_of a) n → PassesList (told n) list kinds.List x y t u → Traces a.surface.size (steps ++ Executes list restore ∷ []) x y z
    over n ran past =
        traced_list a.surface.size steps (context_of a) n (settings_after a.pending) list restore x y t u z count ran.pending stands ran (stands_flushed a.surface.size steps (context_of a) stands n none ran) none accepted w v tr past trace origins step counted

    by : IsPassed a m → Traces a.surface.size (steps ++ Executes list restore ∷ []) x y z
    by (inl same) = over (flushed a) (flushed_run a same.1) (subst (λ (h : Held). PassesList (result_told h) list kinds.List x y t u) same.0 k)
    by (inr h) = over (context_of m) h.run k

-- ---- what is pending over what is stored

-- where what waited has run, the history under the pending commands is that before
pub stays_history : (x y : ℕ) (a m : Held) → Stays a m → m.waiting ≡ [] → x < a.surface.size.width → y < a.surface.size.height → (events : List NamedEvent) → IsHistory m x y events → IsHistory a x y events
stays_history x y a m s none w v events h = record {
  events_are = h.events_are
      ∙ ap (λ (rs : List (Option ℕ)). history_from 0 (items (performed (λ q. result_of (result_at rs q)) m.pending)) x y (stored m x y)) s.results
      ∙ ap (λ (cs : List Command). history_from 0 (items (performed (λ q. result_of (result_at a.results q)) cs)) x y (stored m x y)) s.pending
      ∙ ap (history_from 0 (items (performed_pending (context_of a))) x y) (s.pixels x y w v);
  placed = subst (λ (cs : List Command). All (λ (e : NamedEvent). (e.line ≡ 0) × StandsAt (λ q. result_of (result_at a.results q)) cs e.event.item e.place) events) s.pending
      (subst (λ (rs : List (Option ℕ)). All (λ (e : NamedEvent). (e.line ≡ 0) × StandsAt (λ q. result_of (result_at rs q)) m.pending e.event.item e.place) events) s.results h.placed);
}

-- a trace that went past the pending commands, from what is stored, has their history with their places
module _ {A : Type 0} (x y : ℕ) (h : Held) (before behind : SessionTrace A) (past : PassesList (result_told h) h.pending kinds.List x y before behind) (es : before.trace.events.items ≡ []) (os : before.origins.items ≡ []) (number : before.trace.items ≡ 0) where
  abbrev Named : Type 0
  Named = AreNamed (Comes (result_told h) h.pending kinds.List before.step 0) behind.trace.events.items behind.origins.items

  went : behind.trace.events.items ≡ history_from 0 (items (performed_pending (context_of h))) x y before.trace.pixel
  went =
      past.past.events
      ∙ ap (λ (l : List Event). l ++ history_from before.trace.items (items (performed_pending (context_of h))) x y before.trace.pixel) es
      ∙ ap (λ k. history_from k (items (performed_pending (context_of h))) x y before.trace.pixel) number

  pub pending_named : Named
  pending_named =
      let list = items (performed_pending (context_of h)) in
      subst (λ (l : List Origin). AreNamed (Comes (result_told h) h.pending kinds.List before.step 0) behind.trace.events.items l) (sym (past.origins ∙ ap (λ (l : List Origin). l ++ past.more) os))
      (subst (λ (l : List Event). AreNamed (Comes (result_told h) h.pending kinds.List before.step 0) l past.more) (sym went)
      (subst (λ k. AreNamed (Comes (result_told h) h.pending kinds.List before.step k) (history_from k list x y before.trace.pixel) past.more) number past.named))

  pub pending_history : h.waiting ≡ [] → before.trace.pixel ≡ pixel_of h.surface x y → (events : List NamedEvent) → events ≡ named_by placed_event behind.trace.events.items behind.origins.items → IsHistory h x y events
  pending_history none pixel events told =
      let P = Comes (result_told h) h.pending kinds.List before.step 0 in
      record {
        events_are = ap (map (λ (e : NamedEvent). e.event)) told
            ∙ events_named placed_event (λ e o. refl) P behind.trace.events.items behind.origins.items pending_named
            ∙ went
            ∙ ap (history_from 0 (items (performed_pending (context_of h))) x y) (pixel ∙ sym (stored_settled h none x y));
        placed = subst (All (IsPlaced h)) (sym told)
            (names_are placed_event P (IsPlaced h) (λ e o k. (refl, placed (result_told h) h.pending before.step e.item o k)) behind.trace.events.items behind.origins.items pending_named);
      }

pub if_ok : {T E : Type 0} (P Q : T → Type 0) (r : Result T E) → ((v : T) → P v → Q v) → IfOk r P → IfOk r Q
if_ok P Q (Ok v) f h = f v h
if_ok P Q (Err e) f h = tt

pub anyway : {T E P : Type 0} (r : Result T E) → P → OnOk r P
anyway (Ok x) p = p
anyway (Err e) p = tt
