use Rattle.std.proofs.Common.{◌≡◌, ◌∷◌, [], ℕ, List}
use Rattle.gfxspec.specs.declared.geometry.Size.{Size}
use Rattle.gfxspec.specs.Items.{Item}
use Rattle.binner.specs.Compiled.{Compilation}
use Rattle.binner.specs.Segments.{AreCompiled}
use Rattle.segmentrun.specs.Windows.{joined}
use Rattle.segmentrun.specs.Collected.{AreOfWindows}
use Rattle.segmentrun.proofs.crewing.take_lists.Given as goal

abbrev pub invariant-loop : goal.invariant-loop
invariant-loop g l = record {
  next : l.finished.next ≡ l.counter;
  same : l.finished.results ≡ l.fn.finished.results;
  lists : (size : Size) (meant : ℕ → List Item) (first : Compilation) → AreOfWindows size meant l.fn.finished.results → AreCompiled size (joined meant 1) (first ∷ []) → AreCompiled size (joined meant l.counter) (first ∷ l.behind.items);
}
