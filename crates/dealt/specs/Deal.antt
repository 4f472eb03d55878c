-- The rule of a deque of numbers (this project's own): each task is the number of a tile.
use Rattle.std.specs.Prelude.{◌≡◌, ℕ, ◌<◌, ◌⊎◌, All, List, [], ◌∷◌, Option, Some, None}
use mathlib.Core.Option.{some}
use lib.ListN.{get_elem?}
use Rattle.dealt.specs.declared.rule.Task.{Task}

-- the task is one of t tiles
abbrev pub IsOf : ℕ → Task → Type 0
IsOf t x = (x.tiles ≡ t) × (x.number < t)

-- Before the first push there is one pass, which knows nothing. From then on each pass knows how many tiles there are,
-- and each task in the deque is the number of one of them.
abbrev pub Dealt : List Task → List (Option ℕ) → Type 0
Dealt items views =
    ((items ≡ []) × (views ≡ None ∷ []))
    ⊎ ((t : ℕ) × All (IsOf t) items × ((port : ℕ) (v : Option ℕ) → get_elem? views port ≡ some v → v ≡ Some t))

-- what a push tells the pass that made it

abbrev pub deals : Option ℕ → List Task → Option ℕ → Type 0
deals v [] w = v ≡ w
deals v (x ∷ xs) w = w ≡ Some x.tiles

-- what a pop or a steal tells the pass that made it
abbrev pub takes_out : Option ℕ → List Task → Option ℕ → Type 0
takes_out v [] w = v ≡ w
takes_out v (x ∷ xs) w = (w ≡ v) × (v ≡ Some x.tiles) × (x.number < x.tiles)
