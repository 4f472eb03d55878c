use Rattle.std.proofs.Common.{◌∙◌, ap, sym, refl}
use Rattle.std.specs.Prelude.{slice_index, bit_and}
use Rattle.lanes.specs.Stencil.{has, reference_passes, stencil_after}
use Rattle.tileblock.specs.SpanStored.{lane_pixel}
use Rattle.tileprog.specs.SpanDrawn.{painted_lane, operated_lane}
use Rattle.tileprog.proofs.Spanning.{changed, joined}
use Rattle.tileprog.proofs.Lanes.{has_both}
use Rattle.tileprog.proofs.CellLaws.{alike_lane, alike_bit}
use Rattle.tileprog.proofs.spans.draw_alike.Goals as goal

pub returns-clause-block : goal.returns-clause-block
returns-clause-block c = λ new known.
    let b = c.args.brush.now.brush in
    let old = c.args.block.now in
    let cover = c.args.pixels.bits in
    let passing = c.passing_mask-passing.result in
    let all = c.all_lanes-all.result in
    let bits = bit_and cover (bit_and passing all) in
    let both = joined old c.change_stencils.new.block c.paint_span.new.block c.args.pixels.span c.args.pixels.row (operated_lane c.args.brush.now.test cover passing all) (painted_lane b bits) c.change_stencils.ensures c.paint_span.ensures in
    changed old c.paint_span.new.block c.args.pixels.span c.args.pixels.row _ _ both (λ j h.
    let p = lane_pixel old c.args.pixels.span c.args.pixels.row j in
    let passes = c.passing_mask-passing.ensures j h ∙ (λ i. reference_passes (c.args.brush.now.rule i) (c.stencil_span-stored.ensures j h i)) in
    let after = ap (λ r. stencil_after r (has passing j) (has all j) p.ds.stencil) c.args.brush.now.rule in
    let is = c.all_lanes-all.ensures j h in
    alike_lane b c.args.brush.now.kind (slice_index new j) p (has passing j) (has all j) _ passes after (λ e. c.requires.unwritten (sym is ∙ e)) (has cover j) (has bits j)
    (λ e. is ∙ sym (known j h e)) (has_both cover _ j _ (has_both passing all j (has all j) refl)))

pub returns-clause-bits : goal.returns-clause-bits
returns-clause-bits c = λ new known.
    let b = c.args.brush.now.brush in
    let old = c.args.block.now in
    let cover = c.args.pixels.bits in
    let passing = c.passing_mask-passing.result in
    let all = c.all_lanes-all.result in
    record {
      each = λ j h.
          let p = lane_pixel old c.args.pixels.span c.args.pixels.row j in
          let passes = c.passing_mask-passing.ensures j h ∙ (λ i. reference_passes (c.args.brush.now.rule i) (c.stencil_span-stored.ensures j h i)) in
          let after = ap (λ r. stencil_after r (has passing j) (has all j) p.ds.stencil) c.args.brush.now.rule in
          let is = c.all_lanes-all.ensures j h in
          has_both cover _ j _ (has_both passing all j (has all j) refl)
          ∙ alike_bit b c.args.brush.now.kind (slice_index new j) p (has passing j) (has all j) _ passes after (λ e. c.requires.unwritten (sym is ∙ e)) (has cover j) (λ e. is ∙ sym (known j h e));
    }
