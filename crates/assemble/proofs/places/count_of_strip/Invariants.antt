use Rattle.std.proofs.Common.{◌≡◌, ◌+◌, ◌≤◌, drop}
use Rattle.assemble.proofs.CountLaws.{tail_count}
use Rattle.assemble.proofs.places.count_of_strip.Given as goal

abbrev pub invariant-loop-index : goal.invariant-loop-index
invariant-loop-index l = record {
  run : l.run ≤ l.index-index;
  count : l.count ≤ l.index-index;
  counted : l.count + tail_count l.run (drop l.index-index l.indices) ≡ tail_count 0 l.indices;
}
