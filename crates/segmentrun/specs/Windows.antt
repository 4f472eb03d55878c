-- Windows of segments, each of which is compiled by itself (this project's own).
use Rattle.std.specs.Prelude.{ℕ, zero, suc, ◌≡◌, ◌*◌, List, [], ◌++◌, take, drop}
use Rattle.gfxspec.specs.declared.geometry.Size.{Size}
use Rattle.gfxspec.specs.Items.{Item}
use Rattle.gfxspec.specs.Commands.{Command}
use Rattle.binner.specs.Batched.{MeansItems}
use Rattle.binner.specs.Compiled.{Compilation}

-- the segments of the window of that number, where a window has so many and the last may have fewer
abbrev pub window_of : ℕ → ℕ → List (List Command) → List (List Command)
window_of width number segments = take width (drop (number * width) segments)

-- a list that was compiled for a target of this size, without issues, means these items
abbrev pub IsCompiled : Size → List Item → Compilation → Type 0
IsCompiled size is c = (c.size ≡ size) × (c.issues ≡ 0) × MeansItems is c

-- what the first windows mean one behind the other, from what each means
abbrev pub joined : (ℕ → List Item) → ℕ → List Item
joined meant zero = []
joined meant (suc n) = joined meant n ++ meant n
