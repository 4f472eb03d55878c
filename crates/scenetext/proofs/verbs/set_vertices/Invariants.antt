use Rattle.std.proofs.Common.{◌≡◌, ◌++◌, ◌*◌, ◌-◌, length}
use Rattle.std.specs.List.{flat_map, AllByRecursion}
use Rattle.scenetext.specs.Commands.{vertex_words, IsVertex}
use Rattle.scenetext.proofs.verbs.set_vertices.Given as goal

abbrev pub invariant-loop : goal.invariant-loop
invariant-loop g l = record {
  taken : l.fn.words ≡ flat_map vertex_words l.vertices.items ++ l.words;
  each : AllByRecursion IsVertex l.vertices.items;
  left : length l.words ≡ 7 * (l.end - l.counter);
}
