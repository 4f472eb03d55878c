use Rattle.std.proofs.Common.{◌≡◌, ◌++◌, ◌-◌, length, map}
use Rattle.std.specs.Prelude.{decimal}
use Rattle.std.specs.List.{AllByRecursion}
use Rattle.scenetext.proofs.GroupLemmas.{IsIndex}
use Rattle.scenetext.proofs.verbs.set_indices.Given as goal

abbrev pub invariant-loop : goal.invariant-loop
invariant-loop g l = record {
  taken : l.fn.words ≡ map decimal l.indices.items ++ l.words;
  each : AllByRecursion IsIndex l.indices.items;
  left : length l.words ≡ l.count - l.counter;
}
