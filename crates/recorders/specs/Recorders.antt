-- What the recorder of contexts k and k + 4 gives (this project's own).
use Rattle.std.specs.Prelude.{ℕ, ◌≡◌, ◌+◌, ◌-◌, nat_lt, List, length, All, Option, if◌then◌else◌}
use Rattle.gfxspec.specs.Commands.{Command}
use Rattle.scenetext.specs.Scene.{Line}
use Rattle.recorders.specs.declared.ports.Recorded.{Recorded}
use Rattle.recorders.specs.declared.refusal.ContextEnd.{ContextEnd}
use Rattle.recorders.specs.declared.refusal.RecordingEnd.{RecordingEnd}
use Rattle.recorders.specs.declared.refusal.RefusedLine.{RefusedLine}
use Rattle.recorders.specs.Apart.{lists_behind, IsListed, AcceptsTo, IsStopOf, stop_or}

-- among the first i lines context k accepts its own up to the one that it refuses, if it refuses one, and it finished this many lists
pub record HasRecorded (ls : List Line) (k i : ℕ) (lists : ℕ) (refused : Option RefusedLine) : Type 0 where
  pub counted : lists ≡ length (lists_behind ls k (stop_or refused i))
  pub accepts : AcceptsTo ls k (stop_or refused i)
  pub stop_is : IsStopOf ls k i refused

abbrev pub IsEnd : List Line → ℕ → ContextEnd → Type 0
IsEnd ls k e = HasRecorded ls k (length ls) e.lists e.refused

-- how contexts k and k + 4 end
pub record AreEnded (ls : List Line) (k : ℕ) (e : RecordingEnd) : Type 0 where
  pub first_is : IsEnd ls k e.first
  pub second_is : IsEnd ls (k + 4) e.second

-- the recorder of context k, and the port that its lists go by
abbrev pub port_of : ℕ → ℕ
port_of k = if nat_lt k 4 then k else k - 4

abbrev pub end_in : RecordingEnd → ℕ → ContextEnd
end_in e k = if nat_lt k 4 then e.first else e.second

-- all lists that were put are those that their contexts and numbers name, and they are as many as were finished
pub record IsRecording (ls : List Line) (k : ℕ) (before after : List (Recorded (List Command))) (e : RecordingEnd) : Type 0 where
  pub listed : All (IsListed ls) before → All (IsListed ls) after
  pub whole : length after ≡ length before + e.first.lists + e.second.lists
  pub ends : AreEnded ls k e
