use Rattle.tileprog.specs.Painting.{written}
use Rattle.tileprog.proofs.Places.{ChangedSoFar}
use Rattle.tileprog.proofs.paint.write_tile.Given as goal

abbrev pub invariant-loop-at : goal.invariant-loop-at
invariant-loop-at l = record { so_far : ChangedSoFar (written l.fn.write) l.fn.block l.block l.at }
