-- The trace of a pixel beside a context: what recording, runs and executions make of it, and what it tells behind the last run.
use Rattle.std.proofs.Common.{◌≡◌, ◌∙◌, ap, sym, subst, refl, arith, ℕ, ◌<◌, true, false, true≢false, not, ◌&&◌, nat_lt, List, [], ◌++◌, length, take}
use Rattle.std.proofs.lemmas.Bool.Decides.{nat_tests}
use Rattle.std.specs.Prelude.{Result, Ok, Err, OnOk, Option, None, MatchOption}
use Rattle.std.proofs.lemmas.List.{append-nil, take_all}
use Rattle.gfxspec.specs.declared.geometry.Size.{Size}
use Rattle.gfxspec.specs.Items.{opening}
use Rattle.gfxspec.specs.declared.error.GfxError.{GfxError}
use Rattle.gfxspec.specs.Session.{Step}
use Rattle.meaning.specs.Standing.{Stands}
use Rattle.pixelevents.specs.Laws.{left_by}
use Rattle.pixelevents.specs.Sessions.{performed_items, session_history}
use Rattle.pixelevents.proofs.HistoryLaws.{last}
use Rattle.pixelevents.specs.Origins.{AreNamed, IsOriginOf}
use Rattle.pixelhistory.specs.declared.session.SessionTrace.{SessionTrace}
use Rattle.pixelhistory.specs.Standing.{TracesAll, Traces}
use Rattle.scenetext.specs.Scene.{Line, Scene}
use Rattle.immediate.specs.Held.{Held, context_of}
use Rattle.sessions.specs.declared.outcome.Ended.TheVariants as ended
use Rattle.sessions.specs.declared.play.Interruption.{Interruption}
use Rattle.sessions.specs.declared.play.Played.{Played}
use Rattle.sessions.specs.declared.traced.TracedContext.{TracedContext}
use Rattle.sessions.specs.Histories.{traces_beside}
use Rattle.sessions.specs.Lists.{steps_of}
use Rattle.sessions.specs.Playing.{HasReached}
use Rattle.sessions.proofs.Steps.{IsLast}
use Rattle.sessions.specs.Answers.{answers, pixel_after}
use Rattle.sessions.specs.Writing.{Output, Draws, whole, short, end_of}

module _ {A : Type 0} (size : Size) where
  -- what waits adds no item
  pub traced_settle : (steps : List Step) (x y : ℕ) (t : SessionTrace A) → Traces size steps x y t → Traces size (steps ++ []) x y t
  traced_settle steps x y t h = subst (λ ss. Traces size ss x y t) (sym (append-nil steps)) h

  -- where this is the pixel of a context, and the trace goes on there
  pub traced_at : (steps more : List Step) (x y column row : ℕ) (t u : SessionTrace A) → (column ≡ x) × (row ≡ y) × Traces size steps x y t → (Traces size steps column row t → Traces size more column row u) → (column ≡ x) × (row ≡ y) × Traces size more x y u
  traced_at steps more x y column row t u h on = (
    h.0,
    h.1,
    subst (λ n. Traces size more n y u) h.0
        (subst (λ m. Traces size more column m u) h.1
        (on (subst (λ n. Traces size steps n row t) (sym h.0) (subst (λ m. Traces size steps x m t) (sym h.1) h.2)))),
  )

-- what a call traced at the pixel of a context that held h
pub on_beside : {A T E : Type 0} (h : Held) (more : List Step) (column row : ℕ) (t u : SessionTrace A) (result : Result T E) → ((steps : List Step) → Stands h.surface.size steps (context_of h) → Traces h.surface.size steps column row t → OnOk result (Traces h.surface.size (steps ++ more) column row u))
    → OnOk result ((steps : List Step) (x y : ℕ) → Stands h.surface.size steps (context_of h) → (column ≡ x) × (row ≡ y) × Traces h.surface.size steps x y t → (column ≡ x) × (row ≡ y) × Traces h.surface.size (steps ++ more) x y u)
on_beside h more column row t u (Ok done) on = λ steps x y stands before. traced_at h.surface.size steps (steps ++ more) x y column row t u before (on steps stands)
on_beside h more column row t u (Err e) on = tt

-- its last event leaves what the pixel holds in the image
pub last_shown : (size : Size) (lines : List Line) (x y : ℕ) → left_by opening (session_history size (steps_of lines) x y) ≡ pixel_after size lines x y
last_shown size lines x y = last 0 (performed_items size (steps_of lines)) x y opening

-- what was drawn has no refused line
pub drawn_done : (scene : Scene) (o : Output) → Draws scene o → o.ended ≡ ended.Done → end_of (answers scene) ≡ ended.Done
drawn_done scene o whole done = done
drawn_done scene o (short line low high) done = absurd cc

-- a place of a target, or none
pub pixel_inside : (x y : ℕ) (size : Size) → not (nat_lt x size.width && nat_lt y size.height) ≡ false → (x < size.width) × (y < size.height)
pixel_inside x y size h = (column h, row h)
  where
    column : not (nat_lt x size.width && nat_lt y size.height) ≡ false → x < size.width
    column h = grind (arith, nat_tests)

    row : not (nat_lt x size.width && nat_lt y size.height) ≡ false → y < size.height
    row h = grind (arith, nat_tests)

pub pixel_outside : (x y : ℕ) (size : Size) → not (nat_lt x size.width && nat_lt y size.height) ≡ true → x < size.width → y < size.height → ⊥
pixel_outside x y size h column row =
    let a : nat_lt x size.width ≡ true = grind (arith, nat_tests) in
    let b : nat_lt y size.height ≡ true = grind (arith, nat_tests) in
    absurd (true≢false (sym h ∙ ap (λ c. not (c && nat_lt y size.height)) a ∙ ap not b))

-- what the end of a session traced at the pixel of a context that held h
pub ended_beside : {A T E : Type 0} (h : Held) (column row : ℕ) (t u : SessionTrace A) (result : Result T E) → ((steps : List Step) → Stands h.surface.size steps (context_of h) → Traces h.surface.size steps column row t → OnOk result (TracesAll h.surface.size steps column row u))
    → (steps : List Step) (x y : ℕ) → Stands h.surface.size steps (context_of h) → (column ≡ x) × (row ≡ y) × Traces h.surface.size steps x y t → OnOk result (TracesAll h.surface.size steps x y u)
ended_beside h column row t u result on steps x y stands before =
    subst (λ n. OnOk result (TracesAll h.surface.size steps n y u)) before.0
    (subst (λ m. OnOk result (TracesAll h.surface.size steps column m u)) before.1
    (on steps stands
    (subst (λ n. Traces h.surface.size steps n row t) (sym before.0) (subst (λ m. Traces h.surface.size steps x m t) (sym before.1) before.2))))

-- behind all lines the trace has all of the session
pub all_traced_beside : {A : Type 0} (size : Size) (ls : List Line) (x y : ℕ) (c d : TracedContext A) (text : List ℕ) (place : ℕ) (last : Result (Unit {0}) GfxError) (r : Played (TracedContext A) A) → HasReached size ls (length ls) c.context text
    → ((steps : List Step) (x y : ℕ) → Stands c.context.surface.size steps (context_of c.context) → traces_beside c.context.surface.size steps x y c → OnOk last (TracesAll c.context.surface.size steps x y d.trace))
    → traces_beside size (steps_of ls) x y c → r.context ≡ d → IsLast place last r → MatchOption r.interruption (TracesAll size (steps_of ls) x y r.context.trace) (λ at. Unit {0})
all_traced_beside {A} size ls x y c d text place last r reached on t context is = by last went is
  where
    lines : take (length ls) ls ≡ ls
    lines = take_all (length ls) ls (omega arith)

    went : OnOk last (TracesAll size (steps_of ls) x y d.trace)
    went =
        subst (λ (s : Size). OnOk last (TracesAll s (steps_of ls) x y d.trace)) reached.played.size_is
        (on (steps_of ls) x y
        (subst (λ (s : Size). Stands s (steps_of ls) (context_of c.context)) (sym reached.played.size_is) (subst (λ l. Stands size (steps_of l) (context_of c.context)) lines reached.played.stands))
        (subst (λ (s : Size). traces_beside s (steps_of ls) x y c) (sym reached.played.size_is) t))

    by : (last : Result (Unit {0}) GfxError) → OnOk last (TracesAll size (steps_of ls) x y d.trace) → IsLast place last r → MatchOption r.interruption (TracesAll size (steps_of ls) x y r.context.trace) (λ at. Unit {0})
    by (Ok u) h none =
        subst (λ (o : Option (ℕ × Interruption)). MatchOption o (TracesAll size (steps_of ls) x y r.context.trace) (λ at. Unit {0})) (sym none)
        (subst (λ (e : TracedContext A). TracesAll size (steps_of ls) x y e.trace) (sym context) h)
    by (Err e) h some = subst (λ (o : Option (ℕ × Interruption)). MatchOption o (TracesAll size (steps_of ls) x y r.context.trace) (λ at. Unit {0})) (sym some) tt

-- the trace of a session that was not interrupted has the history of its lines, and where its events come from
pub record HasWhole {A : Type 0} (size : Size) (steps : List Step) (x y : ℕ) (t : SessionTrace A) : Type 0 where
  pub events : t.trace.events.items ≡ session_history size steps x y
  pub named : AreNamed (IsOriginOf size steps) t.trace.events.items t.origins.items

pub whole_history : {A : Type 0} (size z : Size) (ls ms : List Line) (x y : ℕ) (o : Option (ℕ × Interruption)) (c d : TracedContext A) → z ≡ size → ls ≡ ms → o ≡ None → d ≡ c → MatchOption o (TracesAll z (steps_of ls) x y c.trace) (λ at. Unit {0}) → HasWhole size (steps_of ms) x y d.trace
whole_history {A} size z ls ms x y o c d same lines none is given =
    let h : TracesAll z (steps_of ls) x y c.trace = subst (λ p. MatchOption p (TracesAll z (steps_of ls) x y c.trace) (λ at. Unit {0})) none given in
    subst (λ (e : TracedContext A). HasWhole size (steps_of ms) x y e.trace) (sym is)
    (subst (λ s. HasWhole s (steps_of ms) x y c.trace) same
    (subst (λ l. HasWhole z (steps_of l) x y c.trace) lines record { events = h.past.events; named = h.named }))
