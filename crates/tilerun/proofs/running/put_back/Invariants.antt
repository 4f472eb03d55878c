use Rattle.std.proofs.Common.{◌≡◌}
use Rattle.tilerun.proofs.Moves.{SoFar}
use Rattle.tilerun.proofs.running.put_back.Given as goal

abbrev pub invariant-loop-tile : goal.invariant-loop-tile
invariant-loop-tile g l = record {
  at : l.finished.next ≡ l.tile-index;
  same : (l.finished.results ≡ l.fn.finished.results) × (l.finished.counts ≡ l.fn.finished.counts);
  back : SoFar g.J.BlockJob.done_block (g.J.BlockJob.touched l.job) l.fn.target l.fn.finished.results l.tile-index l.target;
}
