use Rattle.std.proofs.Common.{◌≡◌, ◌≤◌, ◌++◌, ℕ, [], length, drop, map}
use Rattle.std.specs.Prelude.{slice_index_or}
use Rattle.scenetext.specs.Seen.{line_value}
use Rattle.recorders.specs.Dealing.{places_of}
use Rattle.recorders.proofs.dealing.deal.Given as goal

abbrev pub invariant-loop-place : goal.invariant-loop-place
invariant-loop-place g l = record {
  five : 5 ≤ length l.places.items;
  rows : (t : ℕ) → slice_index_or (map (λ row. row.items) l.places.items) t [] ++ places_of t l.place (drop l.place (map line_value l.lines)) ≡ places_of t 0 (map line_value l.lines);
}
