use Rattle.tileprog.proofs.Marking.{Gathered}
use Rattle.tileprog.proofs.gathering.gather_touched.Given as goal

abbrev pub invariant-loop-list : goal.invariant-loop-list
invariant-loop-list g l = Gathered l.first.size l.seen.items l.tiles.items l.first l.behind l.list-index
