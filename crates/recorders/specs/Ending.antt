-- All deferred contexts of a scene, recorded.
use Rattle.std.specs.Prelude.{ℕ, ◌≡◌, ◌<◌, ◌≤◌, nat_lt, List, [], ◌∷◌, length, Option, Some, None, MatchOption, slice_index_or, if◌then◌else◌}
use Rattle.gfxspec.specs.Commands.{Command}
use Rattle.scenetext.specs.Scene.{Line}
use Rattle.recorders.specs.declared.refusal.RefusedLine.{RefusedLine}
use Rattle.recorders.specs.declared.refusal.ContextEnd.{ContextEnd}
use Rattle.recorders.specs.declared.refusal.RecordingEnd.{RecordingEnd}
use Rattle.recorders.specs.Apart.{lists_behind, AcceptsTo, IsStopOf, stop_or}
use Rattle.recorders.specs.Recorders.{AreEnded, end_in, port_of}

-- the first of two refused lines in their order
abbrev pub earlier_of : Option RefusedLine → Option RefusedLine → Option RefusedLine
earlier_of None b = b
earlier_of (Some a) None = Some a
earlier_of (Some a) (Some b) = if nat_lt b.place a.place then Some b else Some a

-- the first of these recorders' and one that is known
abbrev pub first_of : Option RefusedLine → List RecordingEnd → Option RefusedLine
first_of known [] = known
first_of known (e ∷ ends) = first_of (earlier_of known (earlier_of e.first.refused e.second.refused)) ends

-- one of the eight contexts refused a line, or memory was refused in it
abbrev pub IsStopOfSome : List Line → Option RefusedLine → Type 0
IsStopOfSome ls None = Unit {0}
IsStopOfSome ls (Some s) = (k : ℕ) × (k < 8) × IsStopOf ls k (length ls) (Some s)

-- context k finishes no list of this number before the refused line
abbrev pub Lacks : List Line → Option RefusedLine → ℕ → ℕ → Type 0
Lacks ls refused k n = length (lists_behind ls k (stop_or refused (length ls))) ≤ n

-- Each deferred context accepts its lines up to the refused one, which one of them refused, or memory was refused in it. A list that was missing, by context and number, is not finished before it.
pub record AreRecorded (ls : List Line) (refused : Option RefusedLine) (missing : Option (ℕ × ℕ)) : Type 0 where
  pub accepted : (k : ℕ) → k < 8 → AcceptsTo ls k (stop_or refused (length ls))
  pub stop_is : IsStopOfSome ls refused
  pub missing_is : MatchOption missing (Unit {0}) (λ name. name.0 < 8 → Lacks ls refused name.0 name.1)

abbrev pub no_end : ContextEnd
no_end = record { lists = 0; refused = None }

-- how the contexts of recorder p end
abbrev pub pair_at : List RecordingEnd → ℕ → RecordingEnd
pair_at ends p = slice_index_or ends p (record { first = no_end; second = no_end })

-- how context k ends
abbrev pub end_at : List RecordingEnd → ℕ → ContextEnd
end_at ends k = end_in (pair_at ends (port_of k)) k

-- how the eight contexts end, by their four recorders
abbrev pub AreEnds : List Line → List RecordingEnd → Type 0
AreEnds ls ends = (length ends ≡ 4) × ((p : ℕ) → p < 4 → AreEnded ls p (pair_at ends p))

-- context k finished no list of this number
abbrev pub EndsLack : List RecordingEnd → ℕ → ℕ → Type 0
EndsLack ends k n = (end_at ends k).lists ≤ n

-- ---- recorded alone

pub record Alone : Type 0 where
  pub lines : List Line
  pub rows : List (List (List Command))
  pub ends : List RecordingEnd
