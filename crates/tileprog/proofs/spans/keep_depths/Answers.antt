use Rattle.std.proofs.Common.{ap, sym}
use Rattle.std.specs.Prelude.{if◌then◌else◌}
use Rattle.tileblock.specs.SpanStored.{lane_pixel}
use Rattle.tileprog.specs.SpanDrawn.{deepened_lane}
use Rattle.tileprog.proofs.Spanning.{changed, unchanged}
use Rattle.tileprog.proofs.spans.keep_depths.Goals as goal

pub returns-then-write : goal.returns-then-write
returns-then-write c =
    changed _ _ _ _ _ _ c.put_depths.ensures (λ j h.
    let p = lane_pixel c.args.block.now c.args.pixels.span c.args.pixels.row j in
    ap (λ t. if t then deepened_lane c.args.pixels.bits c.args.new.now j p else p) (sym c.if-write.true))

pub returns-else-write : goal.returns-else-write
returns-else-write c =
    unchanged _ _ _ _ (λ j h.
    let p = lane_pixel c.args.block.now c.args.pixels.span c.args.pixels.row j in
    ap (λ t. if t then deepened_lane c.args.pixels.bits c.args.new.now j p else p) (sym c.if-write.false))
