use Rattle.std.proofs.Common.{◌≡◌, ◌∙◌, ap, sym, refl}
use Rattle.std.specs.Prelude.{slice_index, ◌&&◌}
use Rattle.lanes.specs.Stencil.{has}
use Rattle.tileblock.specs.SpanStored.{lane_pixel}
use Rattle.tileprog.specs.Brushes.{tested_by}
use Rattle.tileprog.specs.SpanDrawn.{kept_lane}
use Rattle.tileprog.proofs.Spanning.{changed}
use Rattle.tileprog.proofs.Lanes.{kept_drawn}
use Rattle.tileprog.proofs.spans.draw_depths.Goals as goal

pub returns-then-bits-clause-block : goal.returns-then-bits-clause-block
returns-then-bits-clause-block c =
    let b = c.args.brush.now.brush in
    let cover = c.args.pixels.bits in
    changed _ _ _ _ _ _ c.draw_passed.ensures (λ j h.
    let p = lane_pixel c.args.block.now c.args.pixels.span c.args.pixels.row j in
    let z = slice_index c.args.new.now j in
    let passes : has 255 j ≡ (has cover j && (tested_by b z p.ds).passed) = ap (λ n. has n j) (sym c.if-bits.true) ∙ c.passed_depths-bits.ensures.each j h in
    kept_drawn b c.args.brush.now.func c.args.brush.now.write c.args.brush.now.kind z (has cover j) (has 255 j) p (kept_lane c.args.brush.now.write 255 c.args.new.now j p) passes refl)

pub returns-else-bits-clause-block : goal.returns-else-bits-clause-block
returns-else-bits-clause-block c =
    let b = c.args.brush.now.brush in
    let bits = c.passed_depths-bits.result in
    changed _ _ _ _ _ _ c.draw_passed-else-bits.ensures (λ j h.
    let p = lane_pixel c.args.block.now c.args.pixels.span c.args.pixels.row j in
    let z = slice_index c.args.new.now j in
    kept_drawn b c.args.brush.now.func c.args.brush.now.write c.args.brush.now.kind z (has c.args.pixels.bits j) (has bits j) p (kept_lane c.args.brush.now.write bits c.args.new.now j p) (c.passed_depths-bits.ensures.each j h) refl)
