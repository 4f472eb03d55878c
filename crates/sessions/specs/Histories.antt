-- The history of a pixel over a script, from its bytes to the events (this project's own).
use Rattle.std.specs.Prelude.{ℕ, ◌≡◌, ◌<◌, ◌+◌, true, List, [], ◌∷◌, ◌++◌, length, map, All}
use Rattle.gfxspec.specs.declared.geometry.Size.{Size}
use Rattle.gfxspec.specs.Items.{opening}
use Rattle.gfxspec.specs.Limits.{is_size}
use Rattle.gfxspec.specs.Session.{Step}
use Rattle.pixelevents.specs.declared.Event.{Event}
use Rattle.pixelevents.specs.declared.Place.{Place}
use Rattle.pixelevents.specs.declared.Origin.{Origin}
use Rattle.pixelevents.specs.declared.NamedEvent.{NamedEvent}
use Rattle.pixelevents.specs.Origins.{ComesOf}
use Rattle.pixelevents.specs.Laws.{left_by}
use Rattle.pixelevents.specs.Sessions.{session_history}
use Rattle.pixelhistory.specs.Standing.{Traces}
use Rattle.scenetext.specs.Scene.{Line, Scene}
use Rattle.scenetext.specs.Spelling.{Spells}
use Rattle.immediate.specs.Held.{Held}
use Rattle.sessions.specs.declared.outcome.Ended.TheVariants as ended
use Rattle.sessions.specs.declared.telling.NoHistory.{NoHistory}
use Rattle.sessions.specs.declared.telling.NoHistory.TheVariants as faults
use Rattle.sessions.specs.declared.traced.TracedContext.{TracedContext}
use Rattle.sessions.specs.Lists.{actor_steps, steps_of}
use Rattle.sessions.specs.Playing.{own_place}
use Rattle.sessions.specs.Answers.{answers, pixel_after}
use Rattle.sessions.specs.Writing.{Output, end_of, Writes}

abbrev pub held_by : {A : Type 0} → TracedContext A → Held
held_by c = c.context

-- the trace beside a context went past all that ran of a session
abbrev pub traces_beside : {A : Type 0} → Size → List Step → ℕ → ℕ → TracedContext A → Type 0
traces_beside size steps x y c = (c.x ≡ x) × (c.y ≡ y) × Traces size steps x y c.trace

-- a text spells this scene, which has the pixel in its target
pub record HasPixel (text : List ℕ) (x y : ℕ) (scene : Scene) : Type 0 where
  pub spells : Spells text scene
  pub sized : is_size scene.size ≡ true
  pub column : x < scene.size.width
  pub row : y < scene.size.height

-- The item of this number is one of what this line of these does, the first of which is line 2, and stands at this place in it: of a line that records a command it is a triangle of that, of one that executes a list it stands in the list.
pub record IsOfLine (size : Size) (lines : List Line) (item line : ℕ) (place : Place) : Type 0 where
  pub front : List Line
  pub own : Line
  pub back : List Line
  pub split : lines ≡ front ++ own ∷ back
  pub before : line ≡ length front + 2
  pub step : Step
  pub does : actor_steps front own.actor own.verb ≡ step ∷ []
  pub comes : ComesOf size (steps_of front) step item place

-- the history of a pixel over lines, each event with the line that it comes from
pub record IsNamedHistory (size : Size) (lines : List Line) (x y : ℕ) (events : List NamedEvent) : Type 0 where
  pub events_are : map (λ (e : NamedEvent). e.event) events ≡ session_history size (steps_of lines) x y
  pub named : All (λ (e : NamedEvent). IsOfLine size lines e.event.item e.line e.place) events

-- The history of a pixel over a text: of the scene that it spells, of which no line is refused. The last event leaves what the pixel holds in the image.
pub record IsHistory (text : List ℕ) (x y : ℕ) (events : List NamedEvent) : Type 0 where
  pub scene : Scene
  pub has_pixel : HasPixel text x y scene
  pub done : end_of (answers scene) ≡ ended.Done
  pub named : IsNamedHistory scene.size scene.lines x y events
  pub last : left_by opening (map (λ (e : NamedEvent). e.event) events) ≡ pixel_after scene.size scene.lines x y

-- an event with the line of its origin: step n is line n of the immediate context
abbrev pub named_event : List Line → Event → Origin → NamedEvent
named_event lines e o = record { event = e; line = own_place lines o.step + 2; place = o.place }

-- a session of the text may end with this refused line
pub record MayRefuse (text : List ℕ) (line number : ℕ) : Type 0 where
  pub output : Output
  pub allowed : Writes text output
  pub ended : output.ended ≡ ended.Refused line number

-- the scene of the text has a target, and in it no such pixel
pub record HasNoPixel (text : List ℕ) (x y : ℕ) : Type 0 where
  pub scene : Scene
  pub spells : Spells text scene
  pub sized : is_size scene.size ≡ true
  pub outside : x < scene.size.width → y < scene.size.height → ⊥

-- why there is no history
abbrev pub Prevents : List ℕ → ℕ → ℕ → NoHistory → Type 0
Prevents text x y (faults.Refused line number) = MayRefuse text line number
Prevents text x y faults.PixelRange = HasNoPixel text x y
