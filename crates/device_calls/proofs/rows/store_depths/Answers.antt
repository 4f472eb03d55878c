use Rattle.std.proofs.Common.{rules}
use Rattle.tileblock.specs.Surface.{pixel_of}
use Rattle.device_calls.proofs.GoingOn.{row_goes_on}
use Rattle.device_calls.proofs.rows.store_depths.Goals as goal

pub loop-k-preserved : goal.loop-k-preserved
loop-k-preserved c =
    let more = c.store_together-k.ensures in
    record {
      len = search rules;
      stored = row_goes_on 0 (λ n. (pixel_of c.args.target.now n c.args.y).ds.depth) c.args.left c.loop-k.k c.store_together-k.result _ c.loop-k.row c.store_together-k.new.row _ (search rules) more.inside (more.before 0) (more.here 0) (c.depths-depths.ensures) c.loop-k.invariant.stored;
    }
