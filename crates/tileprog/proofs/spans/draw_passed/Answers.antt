use Rattle.tileprog.specs.SpanDrawn.{kept_lane, painted_lane}
use Rattle.tileprog.proofs.Spanning.{joined}
use Rattle.tileprog.proofs.spans.draw_passed.Goals as goal

pub returns : goal.returns
returns c =
    joined c.args.block.now c.keep_depths.new.block c.paint_span.new.block c.args.passed.span c.args.passed.row (kept_lane c.args.brush.now.write c.args.passed.bits c.args.new.now) (painted_lane c.args.brush.now.brush c.args.passed.bits) c.keep_depths.ensures c.paint_span.ensures
