use Rattle.tileprog.proofs.Places.{BytesSoFar}
use Rattle.tileprog.proofs.alike.read_bytes.Given as goal

abbrev pub invariant-loop-at : goal.invariant-loop-at
invariant-loop-at l = record { so_far : BytesSoFar l.block l.at }
