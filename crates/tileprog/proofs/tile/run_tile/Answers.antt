use Rattle.std.proofs.Common.{rules}
use Rattle.tileprog.proofs.tile.run_tile.Goals as goal

pub run_words-counts-requires-clause-rect : goal.run_words-counts-requires-clause-rect
run_words-counts-requires-clause-rect g c = search rules

pub invariant_of-result : goal.invariant_of-result
invariant_of-result g c = search rules
