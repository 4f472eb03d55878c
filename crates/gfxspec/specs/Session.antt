-- What the accepted calls of a session mean, in the order of execution (Microsoft Learn, ID3D11DeviceContext::ExecuteCommandList).
use Rattle.std.specs.Prelude.{ℕ, ◌+◌, ◌==◌, Bool, true, false, List, [], ◌∷◌, ◌++◌, Option, Some, None, if◌then◌else◌}
use Rattle.std.specs.List.{flat_map}
use Rattle.gfxspec.specs.State.{Settings, defaults}
use Rattle.gfxspec.specs.Items.{Item}
use Rattle.gfxspec.specs.Commands.{Command, Begin, Kept}
use Rattle.gfxspec.specs.Recorded.{last_or, settings_after, open_after, queries_open, items_at, items_behind, after_finish}

-- an accepted call of the immediate context: a recorded command, an execution of a list, or a call that runs the pending commands and is nothing else
pub data Step : Type 0 where
  Records : (c : Command) → Step
  Executes : (commands : List Command) (restore : Bool) → Step
  Flushes : Step

-- what later immediate settings look back on: an execution that restores isn't there, one that doesn't sets all kinds to their defaults
abbrev pub seen : Step → List Command
seen (Records c) = c ∷ []
seen (Executes commands true) = []
seen (Executes commands false) = Kept defaults ∷ []
seen Flushes = []

abbrev pub all_seen : List Step → List Command
all_seen steps = flat_map seen steps

-- the commands in the order of execution, which gives the issues their numbers
abbrev pub run : Step → List Command
run (Records c) = c ∷ []
run (Executes commands restore) = commands
run Flushes = []

abbrev pub all_run : List Step → List Command
all_run steps = flat_map run steps

-- the items of a step behind earlier ones, where each draw and clear is performed; a list is read from defaults
abbrev pub step_items : List Step → Step → List Item
step_items earlier (Records c) = items_at (settings_after (all_seen earlier)) (open_after (all_run earlier)) c
step_items earlier (Executes commands restore) = items_behind (all_run earlier) [] commands
step_items earlier Flushes = []

abbrev pub session_items : List Step → List Step → List Item
session_items earlier [] = []
session_items earlier (s ∷ ss) = step_items earlier s ++ session_items (earlier ++ s ∷ []) ss

-- the items of a session of which each draw and clear is performed (`Predication` leaves the others out)
abbrev pub items_of_session : List Step → List Item
items_of_session steps = session_items [] steps

-- the settings and the open queries of the immediate context
abbrev pub settings_now : List Step → Settings
settings_now steps = settings_after (all_seen steps)

abbrev pub open_now : List Step → List ℕ
open_now steps = queries_open (all_run steps)

-- ---- the last ended issue of a query

abbrev pub begun_from : ℕ → ℕ → List Command → List ℕ
begun_from q k [] = []
begun_from q k (Begin p ∷ cs) = if p == q then k ∷ begun_from q (k + 1) cs else begun_from q (k + 1) cs
begun_from q k (c ∷ cs) = begun_from q k cs

abbrev pub last_of : List ℕ → Option ℕ
last_of [] = None
last_of (k ∷ ks) = Some (last_or k ks)

-- With no query open each issue has ended, so this is asked there alone.
abbrev pub last_issue : ℕ → List Step → Option ℕ
last_issue q steps = last_of (begun_from q 0 (all_run steps))

-- ---- the pending list, on which the limits rest

-- what the list holds behind each step
abbrev pub pending_from : List Step → List Command → List Step → List Command
pending_from earlier list [] = list
pending_from earlier list (Records c ∷ ss) = pending_from (earlier ++ Records c ∷ []) (list ++ c ∷ []) ss
pending_from earlier list (Executes commands restore ∷ ss) =
    pending_from (earlier ++ Executes commands restore ∷ []) (after_finish restore (all_seen earlier)) ss
pending_from earlier list (Flushes ∷ ss) =
    pending_from (earlier ++ Flushes ∷ []) (after_finish true (all_seen earlier)) ss

abbrev pub pending : List Step → List Command
pending steps = pending_from [] [] steps
