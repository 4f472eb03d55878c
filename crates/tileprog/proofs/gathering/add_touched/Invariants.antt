use Rattle.tileprog.proofs.Marking.{SoFar}
use Rattle.tileprog.proofs.gathering.add_touched.Given as goal

abbrev pub invariant-loop-tile : goal.invariant-loop-tile
invariant-loop-tile g l = SoFar l.list.size l.seen.items l.fn.tiles.items l.tiles.items l.list.touched l.tile-index
