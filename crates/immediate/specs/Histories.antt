-- The history of a pixel under the pending commands of a context (this project's own).
use Rattle.std.specs.Prelude.{◌≡◌, ◌⊎◌, ℕ, true, List, [], map, All, Result, OnOk, IfErr}
use Rattle.gfxspec.specs.declared.error.GfxError.{GfxError}
use Rattle.gfxspec.specs.Recorded.{items, issues}
use Rattle.gfxspec.specs.Refusals.{Row, AnswersBy}
use Rattle.meaning.specs.Contexts.{performed_pending}
use Rattle.pixelevents.specs.declared.Event.{Event}
use Rattle.pixelevents.specs.declared.Origin.{Origin}
use Rattle.pixelevents.specs.declared.NamedEvent.{NamedEvent}
use Rattle.pixelevents.specs.History.{history_from}
use Rattle.pixelevents.specs.Places.{StandsAt}
use Rattle.immediate.specs.Held.{Held, context_of, stored, result_told, Stays, Ran, IsRefused}

-- an event with its place, of no line
abbrev pub placed_event : Event → Origin → NamedEvent
placed_event e o = record { event = e; line = 0; place = o.place }

-- it is of no line, and its item stands at its place among the pending commands
abbrev pub IsPlaced : Held → NamedEvent → Type 0
IsPlaced h e = (e.line ≡ 0) × StandsAt (result_told h) h.pending e.event.item e.place

-- the history of a pixel under the pending commands, from what it holds before them
pub record IsHistory (h : Held) (x y : ℕ) (events : List NamedEvent) : Type 0 where
  pub events_are : map (λ (e : NamedEvent). e.event) events ≡ history_from 0 (items (performed_pending (context_of h))) x y (stored h x y)
  pub placed : All (IsPlaced h) events

-- a call that runs nothing that is pending is answered by its rows
pub record Asks {T : Type 0} (rows : List Row) (old new : Held) (result : Result T GfxError) : Type 0 where
  pub answer : AnswersBy rows result
  pub ok : OnOk result (Stays old new)
  pub err : IfErr result (λ e. IsRefused e old new)

-- the pending commands begin no query and are pending still, or they ran
abbrev pub IsPassed : Held → Held → Type 0
IsPassed old new = ((new ≡ old) × (issues old.pending ≡ [])) ⊎ Ran [] true old new
