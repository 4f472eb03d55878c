-- The lists of the eight contexts that are here: a row for each that there is, in the order of their numbers.
use Rattle.std.specs.Prelude.{ℕ, ◌≡◌, ◌<◌, List, [], ◌∷◌, ◌++◌, length, set, slice_index_or}
use Rattle.gfxspec.specs.Commands.{Command}
use Rattle.scenetext.specs.Scene.{Line}
use Rattle.recorders.specs.declared.ports.Recorded.{Recorded}
use Rattle.recorders.specs.Recording.{listed}

abbrev pub row : List (List (List Command)) → ℕ → List (List Command)
row rows k = slice_index_or rows k []

-- one more list of context k
abbrev pub with_list : List (List (List Command)) → ℕ → List Command → List (List (List Command))
with_list rows k x = set rows k (row rows k ++ x ∷ [])

-- a list is the next of its context
abbrev pub IsNext : List (List (List Command)) → Recorded (List Command) → Type 0
IsNext rows x = (x.context < length rows) × (x.number ≡ length (row rows x.context))

-- a row holds the first lists of context k
abbrev pub IsRow : List Line → ℕ → List (List Command) → Type 0
IsRow ls k xs = (n : ℕ) → n < length xs → slice_index_or xs n [] ≡ listed ls k n

abbrev pub AreRows : List Line → List (List (List Command)) → Type 0
AreRows ls rows = (k : ℕ) → IsRow ls k (row rows k)
