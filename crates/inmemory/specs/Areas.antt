-- What stands in two areas of memory, one for answer lines and one for an image, once a script was drawn into them.
use Rattle.std.specs.Prelude.{ℕ, ◌≡◌, ◌<◌, ◌≤◌, List, ◌++◌, length, drop}
use Rattle.sessions.specs.declared.outcome.Ended.{Ended}
use Rattle.sessions.specs.declared.outcome.Ended.TheVariants as ended
use Rattle.sessions.specs.Writing.{Output, Writes}
use Rattle.inmemory.specs.declared.areas.Report.{Report}
use Rattle.inmemory.specs.declared.areas.Status.{Status}
use Rattle.inmemory.specs.declared.areas.Status.TheVariants.{Done, Refused, LinesTooSmall, ImageTooSmall, NoMemory}

abbrev pub output_of : List ℕ → List ℕ → Ended → Output
output_of lines image end = record { lines = lines; image = image; ended = end }

abbrev pub status_of : Ended → Status
status_of ended.Done = Done
status_of (ended.Refused line number) = Refused line number

-- the sizes of what a session writes, and a status
abbrev pub measured : Output → Status → Report
measured o status = record { lines = length o.lines; image = length o.image; status = status }

-- there was no memory to keep what a session writes
abbrev pub unmeasured : Report
unmeasured = record { lines = 0; image = 0; status = NoMemory }

-- an area with these bytes at its front, and behind them what was there
abbrev pub filled : List ℕ → List ℕ → List ℕ
filled area bytes = bytes ++ drop (length bytes) area

-- What may stand in the two areas, before and after, and in the report, behind the drawing of a script. An output is one that the session may write for the script: it is there whole, or neither area was touched and the report says why.
pub data Drew (text : List ℕ) (lines lines_after image image_after : List ℕ) (report : Report) : Type 0 where
  whole : (o : Output) → Writes text o → length o.lines ≤ length lines → length o.image ≤ length image → report ≡ measured o (status_of o.ended)
      → lines_after ≡ filled lines o.lines → image_after ≡ filled image o.image → Drew text lines lines_after image image_after report
  few_lines : (o : Output) → Writes text o → length lines < length o.lines → report ≡ measured o LinesTooSmall
      → lines_after ≡ lines → image_after ≡ image → Drew text lines lines_after image image_after report
  small_image : (o : Output) → Writes text o → length o.lines ≤ length lines → length image < length o.image → report ≡ measured o ImageTooSmall
      → lines_after ≡ lines → image_after ≡ image → Drew text lines lines_after image image_after report
  no_memory : report ≡ unmeasured → lines_after ≡ lines → image_after ≡ image → Drew text lines lines_after image image_after report

-- What the report may say of a script that was not drawn into any area.
pub data Sized (text : List ℕ) (report : Report) : Type 0 where
  known : (o : Output) → Writes text o → report ≡ measured o (status_of o.ended) → Sized text report
  unknown : report ≡ unmeasured → Sized text report
