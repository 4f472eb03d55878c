use Rattle.std.proofs.Common.{ap, sym}
use Rattle.std.specs.Prelude.{slice_index, if◌then◌else◌}
use Rattle.lanes.specs.Stencil.{has}
use Rattle.tileblock.specs.SpanStored.{lane_pixel}
use Rattle.tileprog.proofs.Spanning.{changed, unchanged}
use Rattle.tileprog.proofs.Lanes.{has_all, has_none, depth_chosen}
use Rattle.tileprog.proofs.spans.put_depths.Goals as goal

pub returns-then-bits : goal.returns-then-bits
returns-then-bits c =
    changed _ _ _ _ _ _ c.set_depth_span.ensures (λ j h.
    let p = lane_pixel c.args.block.now c.args.pixels.span c.args.pixels.row j in
    ap (λ t. record { rgba = p.rgba; ds = record { depth = if t then slice_index c.args.new.now j else p.ds.depth; stencil = p.ds.stencil } }) (sym (has_all c.args.pixels.bits j c.if-bits.true h)))

pub returns-then-bits-ne0 : goal.returns-then-bits-ne0
returns-then-bits-ne0 c =
    changed _ _ _ _ _ _ c.set_depth_lanes.ensures (λ j h. depth_chosen (lane_pixel c.args.block.now c.args.pixels.span c.args.pixels.row j) (has c.args.pixels.bits j) (slice_index c.args.new.now j))

pub returns-else-bits-ne0 : goal.returns-else-bits-ne0
returns-else-bits-ne0 c =
    unchanged _ _ _ _ (λ j h.
    let p = lane_pixel c.args.block.now c.args.pixels.span c.args.pixels.row j in
    ap (λ t. record { rgba = p.rgba; ds = record { depth = if t then slice_index c.args.new.now j else p.ds.depth; stencil = p.ds.stencil } }) (sym (has_none c.args.pixels.bits j c.if-bits-ne0.false)))
