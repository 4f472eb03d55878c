-- Predication: which draws and clears are performed (Microsoft Learn, ID3D11DeviceContext::SetPredication: rendering commands are not performed where the predicate's data is equal to the value; that an occlusion query is the predicate is this project's own).
use Rattle.std.specs.Prelude.{ℕ, Bool, false, not, ◌&&◌, nat_lt, List, [], ◌∷◌, ◌++◌, Option, Some, None, option_map, filter, if◌then◌else◌}
use Rattle.std.specs.Bool.{beq}
use Rattle.gfxspec.specs.declared.geometry.Size.{Size}
use Rattle.gfxspec.specs.State.{Settings}
use Rattle.gfxspec.specs.Items.{issue_count, opening}
use Rattle.gfxspec.specs.Commands.{Command}
use Rattle.gfxspec.specs.Recorded.{settings_after, open_after, is_drawing}
use Rattle.gfxspec.specs.Session.{Step, Records, Executes, Flushes, all_run, items_of_session, settings_now, begun_from, last_of}
use Rattle.gfxspec.specs.Refusals.{is_among}

-- ---- under the result that each query has

-- a predicate withholds where the result of its query is its value; where there is none, nothing is withheld
abbrev pub withholds : (ℕ → Bool) → Option (ℕ × Bool) → Bool
withholds results None = false
withholds results (Some (query, value)) = beq (results query) value

-- a draw or a clear that is withheld isn't performed; any other command is
abbrev pub is_performed : (ℕ → Bool) → Settings → Command → Bool
is_performed results s c = not (is_drawing c && withholds results s.predicate)

abbrev pub performed_behind : (ℕ → Bool) → List Command → List Command → List Command
performed_behind results earlier [] = []
performed_behind results earlier (c ∷ cs) =
    if is_performed results (settings_after earlier) c
    then c ∷ performed_behind results (earlier ++ c ∷ []) cs
    else performed_behind results (earlier ++ c ∷ []) cs

-- The commands of a list that are performed, in order. The results are those before the list, all through it: no list both begins a query and names it in a predicate (PredicateInList).
abbrev pub performed : (ℕ → Bool) → List Command → List Command
performed results commands = performed_behind results [] commands

-- ---- in the order of execution

-- a query's result as a predicate, from the count of an issue: whether it counted a pixel; FALSE without an issue (this project's own)
abbrev pub result_of : Option ℕ → Bool
result_of None = false
result_of (Some count) = nat_lt 0 count

-- the last issue of a query that has ended
abbrev pub last_ended : ℕ → List Step → Option ℕ
last_ended q steps = last_of (filter (λ k. not (is_among k (open_after (all_run steps)))) (begun_from q 0 (all_run steps)))

-- the result of each query behind performed steps
abbrev pub results_behind : Size → List Step → ℕ → Bool
results_behind size steps q =
    result_of (option_map (λ issue. issue_count issue (items_of_session steps) size.width size.height (λ x y. opening)) (last_ended q steps))

-- a step as it is performed behind others: a call under the state of the immediate context, a list under its own
abbrev pub performed_step : Size → List Step → Step → List Step
performed_step size steps (Records c) = if is_performed (results_behind size steps) (settings_now steps) c then Records c ∷ [] else []
performed_step size steps (Executes commands restore) = Executes (performed (results_behind size steps) commands) restore ∷ []
performed_step size steps Flushes = Flushes ∷ []

abbrev pub performed_from : Size → List Step → List Step → List Step
performed_from size steps [] = steps
performed_from size steps (s ∷ ss) = performed_from size (steps ++ performed_step size steps s) ss

-- The steps of a session as they are performed: each under the results that those before it leave, in the order of execution. What isn't performed sets no state and begins and ends no issue, so it isn't there.
abbrev pub performed_session : Size → List Step → List Step
performed_session size steps = performed_from size [] steps
