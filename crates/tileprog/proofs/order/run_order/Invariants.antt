use Rattle.tileprog.proofs.Ordering.{RanSoFar}
use Rattle.tileprog.proofs.order.run_order.Given as goal

abbrev pub invariant-loop-tile : goal.invariant-loop-tile
invariant-loop-tile g l = RanSoFar l.compiled l.order l.tile-index l.fn.target l.target l.totals
