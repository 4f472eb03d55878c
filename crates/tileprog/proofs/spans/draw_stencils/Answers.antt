use Rattle.std.specs.Prelude.{slice_index}
use Rattle.lanes.specs.Stencil.{has}
use Rattle.tileblock.specs.SpanStored.{lane_pixel}
use Rattle.tileprog.specs.SpanDrawn.{tested_lane, painted_lane}
use Rattle.tileprog.proofs.Spanning.{changed, joined}
use Rattle.tileprog.proofs.Lanes.{both_lanes}
use Rattle.tileprog.proofs.spans.draw_stencils.Goals as goal

pub returns-clause-block : goal.returns-clause-block
returns-clause-block c =
    let b = c.args.brush.now.brush in
    let old = c.args.block.now in
    let bits = c.test_stencils-bits.result in
    let both = joined old c.test_stencils-bits.new.block c.paint_span.new.block c.args.pixels.span c.args.pixels.row (tested_lane b c.args.pixels.bits c.args.new.now) (painted_lane b bits) c.test_stencils-bits.ensures.block c.paint_span.ensures in
    changed old c.paint_span.new.block c.args.pixels.span c.args.pixels.row _ _ both (λ j h.
    both_lanes b (slice_index c.args.new.now j) (has c.args.pixels.bits j) (has bits j) (lane_pixel old c.args.pixels.span c.args.pixels.row j) (c.test_stencils-bits.ensures.bits.each j h))
