-- What the lines of each deferred context give on their own, whatever the others do (Microsoft Learn, "Immediate and Deferred Rendering": a deferred context records by itself).
use Rattle.std.specs.Prelude.{ℕ, ◌≡◌, ◌<◌, ◌⊎◌, true, List, take, Option, Some, None, slice_index_or}
use Rattle.gfxspec.specs.declared.error.GfxError.{GfxError}
use Rattle.gfxspec.specs.declared.error.GfxError.TheVariants.{OutOfMemory}
use Rattle.gfxspec.specs.Commands.{Command}
use Rattle.gfxspec.specs.Refusals.{first_row}
use Rattle.scenetext.specs.Scene.{Line, Immediate, Flush}
use Rattle.scenetext.specs.Spelling.{is_deferred}
use Rattle.recorders.specs.declared.ports.Recorded.{Recorded}
use Rattle.recorders.specs.declared.refusal.RefusedLine.{RefusedLine}
use Rattle.recorders.specs.Recording.{recording_of, deferred_rows, listed}

abbrev pub a_line : Line
a_line = record { actor = Immediate; verb = Flush }

abbrev pub line_at : List Line → ℕ → Line
line_at ls i = slice_index_or ls i a_line

-- ---- lists

-- the finished lists of context k behind the first i lines, by its own lines alone
abbrev pub lists_behind : List Line → ℕ → ℕ → List (List Command)
lists_behind ls k i = (recording_of k (take i ls)).lists

-- a list is the one that its context and number name
abbrev pub IsListed : List Line → Recorded (List Command) → Type 0
IsListed ls r = r.list ≡ listed ls r.context r.number

-- ---- refusals

-- why context k refuses line j, if it does, by its own lines alone
abbrev pub refused_by : List Line → ℕ → ℕ → Option GfxError
refused_by ls k j = first_row (deferred_rows (recording_of k (take j ls)).current (line_at ls j).verb)

-- the lines of context k among the first i are accepted
abbrev pub AcceptsTo : List Line → ℕ → ℕ → Type 0
AcceptsTo ls k i = (j : ℕ) → j < i → is_deferred k (line_at ls j).actor ≡ true → refused_by ls k j ≡ None

-- a refusal has this cause, or memory was refused
abbrev pub Cause : Option GfxError → GfxError → Type 0
Cause o e = (o ≡ Some e) ⊎ (e ≡ OutOfMemory)

-- the place of a refused line, or else this one
abbrev pub stop_or : Option RefusedLine → ℕ → ℕ
stop_or None n = n
stop_or (Some s) n = s.place

-- context k refused a line among the first n, or memory was refused in it
abbrev pub IsStopOf : List Line → ℕ → ℕ → Option RefusedLine → Type 0
IsStopOf ls k n None = Unit {0}
IsStopOf ls k n (Some s) = (s.place < n) × (is_deferred k (line_at ls s.place).actor ≡ true) × Cause (refused_by ls k s.place) s.refusal
