-- Where the items of a session come from: which step, and where in the list that it executes (this project's own).
use Rattle.std.specs.Prelude.{ℕ, ◌≡◌, ◌<◌, ◌+◌, Bool, List, [], ◌∷◌, ◌++◌, length}
use Rattle.gfxspec.specs.declared.geometry.Size.{Size}
use Rattle.gfxspec.specs.Session.{Step, Records, Executes, Flushes}
use Rattle.gfxspec.specs.Commands.{Command}
use Rattle.gfxspec.specs.Recorded.{queries_open}
use Rattle.gfxspec.specs.Accepted.{AreAccepted}
use Rattle.gfxspec.specs.Predication.{performed_session, result_of, results_behind}
use Rattle.meaning.specs.Contexts.{Context, result_at, answered}
use Rattle.meaning.specs.Standing.{settled, Stands}
use Rattle.pixelevents.specs.declared.Event.{Event}
use Rattle.pixelevents.specs.declared.Place.{Place}
use Rattle.pixelevents.specs.declared.Origin.{Origin}
use Rattle.pixelevents.specs.Places.{StandsAt}
use Rattle.pixelevents.specs.Sessions.{performed_items}

-- the item of a number within a step stands at this place: of a command that is recorded it is the triangle of that number, in a list that is executed it stands where the results before the list put it
abbrev pub PlacedIn : Size → List Step → Step → ℕ → Place → Type 0
PlacedIn size before (Records c) n place = (place.command ≡ 0) × (place.triangle ≡ n)
PlacedIn size before (Executes commands restore) n place = StandsAt (results_behind size (performed_session size before)) commands n place
PlacedIn size before Flushes n place = ⊥

-- the item of this number in a session is one of this step, and stands at this place in it
pub record ComesOf (size : Size) (before : List Step) (step : Step) (item : ℕ) (place : Place) : Type 0 where
  pub within : ℕ
  pub number : item ≡ length (performed_items size before) + within
  pub below : item < length (performed_items size (before ++ step ∷ []))
  pub placed : PlacedIn size before step within place

-- the item of this number comes from the step of that number, and stands at that place in it
pub record IsOriginOf (size : Size) (steps : List Step) (item : ℕ) (origin : Origin) : Type 0 where
  pub front : List Step
  pub step : Step
  pub back : List Step
  pub split : steps ≡ front ++ step ∷ back
  pub before : origin.step ≡ length front
  pub comes : ComesOf size front step item origin.place

-- each event has the origin that stands at its place in another list
abbrev pub AreNamed : (ℕ → Origin → Type 0) → List Event → List Origin → Type 0
AreNamed named [] [] = Unit {0}
AreNamed named (e ∷ es) (o ∷ os) = named e.item o × AreNamed named es os
AreNamed named es os = ⊥

-- the results before the pending commands of a context
abbrev pub told : Context → ℕ → Bool
told c q = result_of (result_at c.results q)

-- the origin of an item of the pending commands, each of which is a step of its own, from this one on
abbrev pub of_pending : ℕ → Place → Origin
of_pending first place = record { step = first + place.command; place = record { command = 0; triangle = place.triangle } }

-- an item of the pending commands comes from the step that recorded its command
abbrev pub PendingComes : Type 0
PendingComes =
    (size : Size) (steps : List Step) (c : Context) (n first : ℕ) (place : Place) → Stands size steps c → length steps ≡ first + length c.pending → StandsAt (told c) c.pending n place → IsOriginOf size steps (length (performed_items size (settled steps)) + n) (of_pending first place)

-- an item of a list comes from the step that executes it
abbrev pub ExecutedComes : Type 0
ExecutedComes =
    (size : Size) (steps : List Step) (c : Context) (list : List Command) (restore : Bool) (n : ℕ) (place : Place) → Stands size steps c → queries_open c.pending ≡ [] → AreAccepted list → StandsAt (λ q. result_of (answered size c q)) list n place → IsOriginOf size (steps ++ Executes list restore ∷ []) (length (performed_items size steps) + n) (record { step = length steps; place = place })
