-- Windows as they come from their board (this project's own).
use Rattle.std.specs.Prelude.{ℕ, ◌≡◌, List, IfSome}
use mathlib.Core.Option.{some}
use lib.ListN.{get_elem?}
use Rattle.gfxspec.specs.declared.geometry.Size.{Size}
use Rattle.gfxspec.specs.Items.{Item}
use Rattle.segmentrun.specs.declared.job.DoneWindow.{DoneWindow}
use Rattle.segmentrun.specs.Windows.{IsCompiled}

-- each that was compiled, for a target of this size, means what is meant by the window of its place
abbrev pub AreOfWindows : {A : Type 0} → Size → (ℕ → List Item) → List (DoneWindow A) → Type 0
AreOfWindows {A} size meant results =
    (p : ℕ) (d : DoneWindow A) → get_elem? results p ≡ some d → IfSome d.compiled (IsCompiled size (meant p))
