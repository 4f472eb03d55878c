-- What the execution of the next submission does (Microsoft Learn, "Introduction to Multithreading in Direct3D 11", ID3D11DeviceContext::ExecuteCommandList).
use Rattle.std.specs.Prelude.{ℕ, ◌≡◌, ◌<◌, Bool, List, [], ◌∷◌, ◌++◌, length, Option, Some, None, Result, Ok, Err}
use Rattle.crossbeam_queue.specs.Fifo.{Held as HeldAtOnce}
use Rattle.gfxspec.specs.declared.error.GfxError.{GfxError}
use Rattle.gfxspec.specs.declared.error.GfxError.TheVariants.{OutOfMemory}
use Rattle.gfxspec.specs.Commands.{Command}
use Rattle.gfxspec.specs.Refusals.{Row, first_row}
use Rattle.port.specs.declared.submission.Submission.{Submission}
use Rattle.port.specs.History.{DrainHistory, of_port, drain_history}
use Rattle.port.specs.Rule.{drain_view, Moment}
use Rattle.immediate.specs.Held.{Held, Ran, IsRefused}

abbrev pub Lists : Type 0
Lists = DrainHistory (List Command)

-- the next submission of its port was taken out, and nothing else
pub record IsTaken (s : Submission (List Command)) (before after : Lists) : Type 0 where
  pub port : s.port < 4
  pub number : s.number ≡ length (of_port s.port before.taken)
  pub taken : after ≡ drain_history before.queue (before.taken ++ s ∷ [])

-- nothing was taken out, and nothing changed
pub record IsIdle (old new : Held) (before after : Lists) : Type 0 where
  pub same : new ≡ old
  pub taken : after ≡ before

-- the submission that was taken out and ran, by port and number
pub record HasExecuted (restore : Bool) (old new : Held) (before after : Lists) (name : ℕ × ℕ) : Type 0 where
  pub submission : Submission (List Command)
  pub taken : IsTaken submission before after
  pub port : name.0 ≡ submission.port
  pub number : name.1 ≡ submission.number
  pub ran : Ran submission.list restore old new

-- nothing ran, and an empty queue fits what was taken
pub record WasEmpty (old new : Held) (before after : Lists) : Type 0 where
  pub idle : IsIdle old new before after
  pub empty : HeldAtOnce 0 (Moment (drain_view before.taken 4 []))

-- without memory the submission that was taken out comes back
pub record ComesBack (rows : List Row) (old new : Held) (before after : Lists) (e : GfxError) (s : Submission (List Command)) : Type 0 where
  pub none : first_row rows ≡ None
  pub memory : e ≡ OutOfMemory
  pub taken : IsTaken s before after
  pub refused : IsRefused e old new

-- a row refuses, and nothing was taken out
pub record TakesNothing (rows : List Row) (old new : Held) (before after : Lists) (e : GfxError) : Type 0 where
  pub row : first_row rows ≡ Some e
  pub idle : IsIdle old new before after

-- the answer of a call that executes the next submission
abbrev pub ExecutesNext : List Row → Bool → Held → Held → Lists → Lists → Result (Option (ℕ × ℕ)) (GfxError × Option (Submission (List Command))) → Type 0
ExecutesNext rows restore old new before after (Ok None) = (first_row rows ≡ None) × WasEmpty old new before after
ExecutesNext rows restore old new before after (Ok (Some name)) = (first_row rows ≡ None) × HasExecuted restore old new before after name
ExecutesNext rows restore old new before after (Err (e, None)) = TakesNothing rows old new before after e
ExecutesNext rows restore old new before after (Err (e, Some s)) = ComesBack rows old new before after e s
