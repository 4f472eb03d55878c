-- What the immediate context holds, and what its calls that execute or run do with it (Microsoft Learn, ID3D11DeviceContext, "Immediate and Deferred Rendering", GetData; Direct3D 11.3 Functional Specification, "Asynchronous Notification").
use Rattle.std.specs.Prelude.{ℕ, ◌≡◌, ◌<◌, ◌⊎◌, Bool, true, List, [], ◌∷◌, ◌++◌, Option, Some, None, Result, Ok, Err, OnOk, IfErr}
use Rattle.gfxspec.specs.declared.error.GfxError.{GfxError}
use Rattle.gfxspec.specs.declared.error.GfxError.TheVariants.{OutOfMemory}
use Rattle.gfxspec.specs.declared.pixel.Pixel.{Pixel}
use Rattle.gfxspec.specs.Commands.{Command}
use Rattle.gfxspec.specs.Items.{after_items}
use Rattle.gfxspec.specs.Predication.{result_of}
use Rattle.gfxspec.specs.Refusals.{Row, first_row, AnswersBy}
use Rattle.tileblock.specs.Surface.{Surface, pixel_of}
use Rattle.immediate.specs.Outputs.{Outputs, cut_over}
use Rattle.meaning.specs.Contexts as contexts
use Rattle.meaning.specs.Contexts.{Context, HasRun}

-- The target and, for each query, the count of its last issue, as they were at the last run; behind it the segments of what was executed and waits to run, none of which begins a query; and the commands recorded since.
pub record Held : Type 0 where
  pub surface : Surface
  pub results : List (Option ℕ)
  pub waiting : List (List Command)
  pub pending : List Command

-- the target and the results
abbrev pub outputs_of : Held → Outputs
outputs_of h = record { surface = h.surface; results = h.results }

-- with nothing that waits
abbrev pub held_of : Outputs → List Command → Held
held_of o pending = record { surface = o.surface; results = o.results; waiting = []; pending = pending }

abbrev pub held_behind : Outputs → List (List Command) → List Command → Held
held_behind o waiting pending = record { surface = o.surface; results = o.results; waiting = waiting; pending = pending }

-- what a pixel is to hold before the pending commands: what waits, run on what the target has
abbrev pub stored : Held → ℕ → ℕ → Pixel
stored h x y = after_items (cut_over (outputs_of h) h.waiting) x y (pixel_of h.surface x y)

-- The context that these are, whatever tiles the target has, and whether what waits has run or not. What waits begins no query, so the results are what they will be.
abbrev pub context_of : Held → Context
context_of h = record { stored = stored h; results = h.results; pending = h.pending }

-- what a pixel holds: the pending commands, run on what is stored
abbrev pub shown : Held → ℕ → ℕ → Pixel
shown h x y = contexts.shown (context_of h) x y

-- what a query answers, if anything: the count of its last issue among the pending commands, else the stored one
abbrev pub answered : Held → ℕ → Option ℕ
answered h q = contexts.answered h.surface.size (context_of h) q

-- the result of each query before the pending commands
abbrev pub result_told : Held → ℕ → Bool
result_told h q = result_of (contexts.result_at h.results q)

-- the context with one pending command more
abbrev pub held_more : Held → Command → Held
held_more h k = record { surface = h.surface; results = h.results; waiting = h.waiting; pending = h.pending ++ k ∷ [] }

-- The pending commands were executed, and then those of a list; they ran, or wait.
pub record Executed (list : List Command) (restore : Bool) (old new : Held) : Type 0 where
  pub size : new.surface.size ≡ old.surface.size
  pub run : HasRun old.surface.size list restore (context_of old) (context_of new)

-- The same, and nothing waits. A call that runs the pending commands and nothing else has the empty list, and restores.
pub record Ran (list : List Command) (restore : Bool) (old new : Held) : Type 0 where
  pub size : new.surface.size ≡ old.surface.size
  pub run : HasRun old.surface.size list restore (context_of old) (context_of new)
  pub settled : new.waiting ≡ []

-- Nothing was executed: what waited may have run.
pub record Stays (old new : Held) : Type 0 where
  pub size : new.surface.size ≡ old.surface.size
  pub pixels : (x y : ℕ) → x < old.surface.size.width → y < old.surface.size.height → stored new x y ≡ stored old x y
  pub results : new.results ≡ old.results
  pub pending : new.pending ≡ old.pending

-- what waits may have run, and the pending commands, and nothing else, may have been executed
abbrev pub MayHaveRun : Held → Held → Type 0
MayHaveRun old new = Stays old new ⊎ Executed [] true old new

-- A refused call changes nothing. Without memory what waits, and the pending commands, may have run before.
abbrev pub IsRefused : GfxError → Held → Held → Type 0
IsRefused e old new = (new ≡ old) ⊎ ((e ≡ OutOfMemory) × MayHaveRun old new)

-- a call that runs the pending commands, and then those of a list, is answered by its rows
pub record Runs {T : Type 0} (rows : List Row) (list : List Command) (restore : Bool) (old new : Held) (result : Result T GfxError) : Type 0 where
  pub answer : AnswersBy rows result
  pub ok : OnOk result (Ran list restore old new)
  pub err : IfErr result (λ e. IsRefused e old new)

-- a call that executes a list, which may wait, is answered by its rows
pub record Enqueues {T : Type 0} (rows : List Row) (list : List Command) (restore : Bool) (old new : Held) (result : Result T GfxError) : Type 0 where
  pub answer : AnswersBy rows result
  pub ok : OnOk result (Executed list restore old new)
  pub err : IfErr result (λ e. IsRefused e old new)

-- a call that examines and runs nothing is refused by the first row that applies
abbrev pub IsExamined : List Row → Result (Unit {0}) GfxError → Type 0
IsExamined rows (Ok done) = first_row rows ≡ None
IsExamined rows (Err e) = first_row rows ≡ Some e
