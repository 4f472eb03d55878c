use Rattle.std.proofs.Common.{◌∙◌, ap, sym}
use Rattle.std.specs.Prelude.{slice_index}
use Rattle.gfxspec.specs.DepthStencil.{compares}
use Rattle.tileblock.specs.SpanStored.{lane_pixel}
use Rattle.tileprog.proofs.Lanes.{has_both, depth_passes}
use Rattle.tileprog.proofs.spans.passed_depths.Goals as goal

pub returns : goal.returns
returns c =
    record {
      each = λ j h.
          let p = lane_pixel c.args.block.now c.args.pixels.span c.args.pixels.row j in
          let z = slice_index c.args.new.now j in
          has_both c.args.pixels.bits c.depth_mask.result j _
          (c.depth_mask.ensures j h ∙ ap (compares c.args.brush.now.func z) (c.depth_span.ensures j h) ∙ sym (depth_passes c.args.brush.now.brush c.args.brush.now.func c.args.brush.now.write c.args.brush.now.kind z p.ds));
    }
