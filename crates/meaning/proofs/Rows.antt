-- Worked rows of contexts with queries, each computed: 4 by 4 pixels, of which the triangle covers 6.
use Rattle.std.proofs.Common.{◌≡◌, refl, ℕ, ◌*◌, Bool, true, false, List, [], ◌∷◌, ◌++◌}
use Rattle.std.specs.Prelude.{pos, Option, Some, None}
use Rattle.std.specs.List.{flat_map}
use Rattle.gfxspec.specs.declared.geometry.Vertex.{Vertex}
use Rattle.gfxspec.specs.declared.geometry.Size.{Size}
use Rattle.gfxspec.specs.declared.state.Topology.TheVariants.{TriangleList}
use Rattle.gfxspec.specs.Commands.{Command, SetVertices, SetTopology, SetPredication, Draw, ClearColor, ClearDepthStencil, Begin, End}
use Rattle.gfxspec.specs.Recorded.{open_after}
use Rattle.gfxspec.specs.Session.{Step, Records, Executes, Flushes, pending}
use Rattle.meaning.specs.OneMore.{open_with}
use Rattle.meaning.specs.Contexts.{Context, last_begun, shown, answered, performed_next}
use Rattle.meaning.specs.Standing.{session_pixels, session_result, settled, issues_begun}

abbrev four : Size
four = record { width = 4; height = 4 }

abbrev at : ℕ → ℕ → Vertex
at x y = record { x = pos (65536 * x); y = pos (65536 * y); z = 5; rgba = 9 ∷ 9 ∷ 9 ∷ 9 ∷ [] }

abbrev half : List Command
half = SetVertices (at 0 0 ∷ at 4 0 ∷ at 0 4 ∷ []) ∷ SetTopology TriangleList ∷ []

abbrev asked : ℕ → List Command
asked q = Begin q ∷ Draw 3 0 ∷ End q ∷ []

abbrev recorded : List Command → List Step
recorded commands = flat_map (λ c. Records c ∷ []) commands

-- what a context keeps of these steps
abbrev behind : List Step → Context
behind steps = record {
  stored = session_pixels four (settled steps);
  results = session_result four (settled steps) 0 ∷ session_result four (settled steps) 1 ∷ [];
  pending = pending steps;
}

-- what queries 0 and 1 answer, by the session and by the context
abbrev Answers : List Step → Option ℕ → Option ℕ → Type 0
Answers steps zero one =
    (session_result four steps 0 ≡ zero) × (session_result four steps 1 ≡ one) × (answered four (behind steps) 0 ≡ zero) × (answered four (behind steps) 1 ≡ one)

abbrev once : List Step
once = recorded (half ++ asked 0)

counted_once : Answers once (Some 6) None
counted_once = (refl, refl, refl, refl)

-- the second issue draws at the same depth
last_issue_answers : Answers (once ++ recorded (asked 0)) (Some 0) None
last_issue_answers = (refl, refl, refl, refl)

-- a flush begins the numbers of issues anew, and no answer changes
flushed : Answers (once ++ Flushes ∷ []) (Some 6) None
flushed = (refl, refl, refl, refl)

flushed_between : Answers (once ++ Flushes ∷ recorded (asked 1)) (Some 6) (Some 0)
flushed_between = (refl, refl, refl, refl)

asked_again : Answers (once ++ Flushes ∷ recorded (ClearDepthStencil 9 0 ∷ asked 0)) (Some 6) None
asked_again = (refl, refl, refl, refl)

-- a list of its own, executed twice: each execution makes a new issue
abbrev list : List Command
list = half ++ asked 1

executed : (restore : Bool) → Answers (once ++ Executes (ClearDepthStencil 9 0 ∷ list) restore ∷ []) (Some 6) (Some 6)
executed true = (refl, refl, refl, refl)
executed false = (refl, refl, refl, refl)

executed_twice : Answers (Executes list true ∷ Executes list true ∷ once) (Some 0) (Some 0)
executed_twice = (refl, refl, refl, refl)

-- counted so far, where the query is open
open_still : Answers (Flushes ∷ recorded (half ++ Begin 1 ∷ Draw 3 0 ∷ [])) None (Some 6)
open_still = (refl, refl, refl, refl)

settled_at : (settled once ≡ []) × (settled (Flushes ∷ once) ≡ Flushes ∷ []) × (settled (once ++ Flushes ∷ []) ≡ once ++ Flushes ∷ []) × (issues_begun (Executes list true ∷ once) ≡ 2)
settled_at = (refl, refl, refl, refl)

opened : (open_after (Begin 3 ∷ Begin 5 ∷ End 3 ∷ Begin 3 ∷ []) ≡ 1 ∷ 2 ∷ []) × (open_with (3 ∷ 5 ∷ 3 ∷ []) (End 5) (1 ∷ 2 ∷ []) ≡ 2 ∷ []) × (open_with (3 ∷ 5 ∷ 3 ∷ []) (Begin 4) (1 ∷ 2 ∷ []) ≡ 1 ∷ 2 ∷ 3 ∷ []) × (last_begun 3 (Begin 3 ∷ Begin 5 ∷ End 3 ∷ Begin 3 ∷ []) ≡ Some 2)
opened = (refl, refl, refl, refl)

-- ---- predication: what a pixel holds, by the session and by the context

abbrev Shown : List Step → List ℕ → Type 0
Shown steps rgba = ((session_pixels four steps 0 0).rgba ≡ rgba) × ((shown (behind steps) 0 0).rgba ≡ rgba)

abbrev clear : Bool → ℕ → List Step
clear value n = recorded (SetPredication (Some (0, value)) ∷ ClearColor (n ∷ n ∷ n ∷ n ∷ []) ∷ [])

-- query 0 counted 6
dropped : Shown (once ++ Flushes ∷ clear true 1) (9 ∷ 9 ∷ 9 ∷ 9 ∷ [])
dropped = (refl, refl)

not_dropped : Shown (once ++ Flushes ∷ clear true 1 ++ Flushes ∷ clear false 2) (2 ∷ 2 ∷ 2 ∷ 2 ∷ [])
not_dropped = (refl, refl)

-- it counted 0, in the second issue
last_issue_tells : Shown (once ++ recorded (asked 0) ++ Flushes ∷ clear true 1) (1 ∷ 1 ∷ 1 ∷ 1 ∷ [])
last_issue_tells = (refl, refl)

-- an execution takes the results of the pending commands, which run first
abbrev predicated : List Command
predicated = SetPredication (Some (0, true)) ∷ ClearColor (3 ∷ 3 ∷ 3 ∷ 3 ∷ []) ∷ []

pending_first : (performed_next four (behind once) predicated ≡ SetPredication (Some (0, true)) ∷ []) × (performed_next four (behind []) predicated ≡ predicated) × (performed_next four (behind (once ++ Flushes ∷ recorded (asked 0))) predicated ≡ predicated)
pending_first = (refl, refl, refl)

executed_round_a_change : Shown (Executes predicated true ∷ []) (3 ∷ 3 ∷ 3 ∷ 3 ∷ []) × Shown (Executes predicated true ∷ once ++ Executes predicated true ∷ []) (9 ∷ 9 ∷ 9 ∷ 9 ∷ [])
executed_round_a_change = ((refl, refl), (refl, refl))

-- the issue of a pending list whose draws are all dropped
dropped_issue : Answers (once ++ Flushes ∷ recorded (SetPredication (Some (0, true)) ∷ ClearDepthStencil 9 0 ∷ asked 1)) (Some 6) (Some 0)
dropped_issue = (refl, refl, refl, refl)
