use Rattle.std.proofs.Common.{◌∙◌, ap, sym, refl}
use Rattle.std.specs.Prelude.{slice_index, ◌||◌, not}
use Rattle.gfxspec.specs.DepthStencil.{compares}
use Rattle.tileblock.specs.SpanStored.{lane_pixel}
use Rattle.tileprog.proofs.Lanes.{has_all}
use Rattle.tileprog.proofs.spans.deep_mask.Goals as goal

pub returns-else-depth : goal.returns-else-depth
returns-else-depth c = λ j h.
    let s = c.args.brush.now.state in
    has_all 255 j refl h ∙ ap (λ d. not d || compares s.func (slice_index c.args.new.now j) (lane_pixel c.args.block.now c.args.span c.args.row j).ds.depth) (sym c.if-depth.false ∙ c.depth.ensures)
