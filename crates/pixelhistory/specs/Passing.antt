-- The trace of a pixel past a list, with the origin of each event (this project's own).
use Rattle.std.specs.Prelude.{ℕ, ◌≡◌, ◌+◌, ◌-◌, Bool, List, ◌++◌}
use Rattle.gfxspec.specs.Commands.{Command}
use Rattle.gfxspec.specs.Recorded.{items}
use Rattle.gfxspec.specs.Predication.{performed}
use Rattle.pixelevents.specs.declared.Event.{Event}
use Rattle.pixelevents.specs.declared.Origin.{Origin}
use Rattle.pixelevents.specs.declared.Place.{Place}
use Rattle.pixelevents.specs.History.{history_from}
use Rattle.pixelevents.specs.Places.{StandsAt}
use Rattle.pixelevents.specs.Origins.{AreNamed}
use Rattle.pixelhistory.specs.declared.session.StepsOf.{StepsOf}
use Rattle.pixelhistory.specs.declared.session.StepsOf.TheVariants as steps
use Rattle.pixelhistory.specs.declared.session.SessionTrace.{SessionTrace}
use Rattle.pixelhistory.specs.Tracing.{GoesPast}

-- the origin of a triangle of a command of a list: each command is a step of its own, from this one on, or all are of this one
abbrev pub origin_at : ℕ → StepsOf → ℕ → ℕ → Origin
origin_at step steps.Each command triangle = record { step = step + command; place = record { command = 0; triangle = triangle } }
origin_at step steps.List command triangle = record { step = step; place = record { command = command; triangle = triangle } }

-- that of an event of a command, whose first item has this number and this origin
abbrev pub origin_behind : ℕ → Origin → Event → Origin
origin_behind first origin e = record { step = origin.step; place = record { command = origin.place.command; triangle = e.item - first } }

-- the item of a number in a list has this origin
pub record ComesFrom (results : ℕ → Bool) (commands : List Command) (steps : StepsOf) (step item : ℕ) (origin : Origin) : Type 0 where
  pub place : Place
  pub stands : StandsAt results commands item place
  pub is : origin ≡ origin_at step steps place.command place.triangle

-- the item of a number is one of the list, whose items begin with this number, and has this origin
abbrev pub Comes : (ℕ → Bool) → List Command → StepsOf → ℕ → ℕ → ℕ → Origin → Type 0
Comes results commands steps step first item origin = (n : ℕ) × (item ≡ first + n) × ComesFrom results commands steps step n origin

-- a list was gone past, and this is where its events come from
pub record PassesList {A : Type 0} (results : ℕ → Bool) (commands : List Command) (steps : StepsOf) (x y : ℕ) (old new : SessionTrace A) : Type 0 where
  pub past : GoesPast (items (performed results commands)) x y old.trace new.trace
  pub more : List Origin
  pub origins : new.origins.items ≡ old.origins.items ++ more
  pub named : AreNamed (Comes results commands steps old.step old.trace.items) (history_from old.trace.items (items (performed results commands)) x y old.trace.pixel) more
  pub step : new.step ≡ old.step
