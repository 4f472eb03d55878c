use Rattle.std.proofs.Common.{ap, sym}
use Rattle.std.specs.Prelude.{slice_index, if◌then◌else◌}
use Rattle.tileblock.specs.SpanStored.{lane_pixel}
use Rattle.tileprog.proofs.Spanning.{changed}
use Rattle.tileprog.proofs.Lanes.{has_all}
use Rattle.tileprog.proofs.spans.put_stencils.Goals as goal

pub returns-then-bits : goal.returns-then-bits
returns-then-bits c =
    changed _ _ _ _ _ _ c.set_stencil_span.ensures.stored (λ j h.
    let p = lane_pixel c.args.block.now c.args.pixels.span c.args.pixels.row j in
    ap (λ t. record { rgba = p.rgba; ds = record { depth = p.ds.depth; stencil = if t then slice_index c.args.new.now j else p.ds.stencil } }) (sym (has_all c.args.pixels.bits j c.if-bits.true h)))
