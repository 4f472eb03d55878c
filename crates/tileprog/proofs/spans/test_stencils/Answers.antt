use Rattle.std.proofs.Common.{◌≡◌, ◌∙◌, ap, sym, refl, true, false}
use Rattle.std.specs.Prelude.{slice_index, ◌&&◌}
use Rattle.lanes.specs.Stencil.{has, reference_passes, stencil_after}
use Rattle.tileblock.specs.SpanStored.{lane_pixel}
use Rattle.tileprog.proofs.Spanning.{changed, joined}
use Rattle.tileprog.proofs.Lanes.{has_both, stencil_lane, stencil_passes_both}
use Rattle.tileprog.proofs.spans.test_stencils.Goals.{else-depth-via-then-depth+else-write, else-depth-via-else-depth}
use Rattle.tileprog.proofs.spans.test_stencils.Goals as goal

pub returns-then-write-clause-block : goal.returns-then-write-clause-block
returns-then-write-clause-block c =
    let b = c.args.brush.now.brush in
    let old = c.args.block.now in
    let both = joined old c.change_stencils.new.block c.put_depths.new.block c.args.pixels.span c.args.pixels.row _ _ c.change_stencils.ensures c.put_depths.ensures in
    let written : true ≡ (b.state.depth && b.state.write) = λ i. (sym c.if-depth.true ∙ c.depth.ensures) i && (sym c.if-write.true ∙ c.write.ensures) i in
    changed old c.put_depths.new.block c.args.pixels.span c.args.pixels.row _ _ both (λ j h.
    let p = lane_pixel old c.args.pixels.span c.args.pixels.row j in
    let passing = has c.passes-passing.result j in
    let deep = has c.deep_mask-deep.result j in
    let passes = c.passes-passing.ensures j h ∙ (λ i. reference_passes (c.args.brush.now.rule i) (c.stencil_span-stored.ensures j h i)) in
    let after = ap (λ r. stencil_after r passing deep p.ds.stencil) c.args.brush.now.rule in
    ap (λ ds. record { rgba = p.rgba; ds = ds })
    (stencil_lane b c.args.brush.now.kind (slice_index c.args.new.now j) p.ds (has c.args.pixels.bits j) passing deep _ true _ passes (c.deep_mask-deep.ensures j h)
    (has_both c.args.pixels.bits _ j _ (has_both c.passes-passing.result c.deep_mask-deep.result j deep refl)) written after))

pub returns-else-depth-clause-block : goal.returns-else-depth-clause-block
returns-else-depth-clause-block c =
    let b = c.args.brush.now.brush in
    let old = c.args.block.now in
    let unwritten : false ≡ (b.state.depth && b.state.write) = elim c.else-depth.branch [
      | else-depth-via-then-depth+else-write w ↦ λ i. (sym w.if-depth.true ∙ c.depth.ensures) i && (sym w.if-write.false ∙ w.write.ensures) i
      | else-depth-via-else-depth w ↦ ap (λ d. d && b.state.write) (sym w.if-depth.false ∙ c.depth.ensures)
    ] in
    changed old c.change_stencils.new.block c.args.pixels.span c.args.pixels.row _ _ c.change_stencils.ensures (λ j h.
    let p = lane_pixel old c.args.pixels.span c.args.pixels.row j in
    let passing = has c.passes-passing.result j in
    let deep = has c.deep_mask-deep.result j in
    let passes = c.passes-passing.ensures j h ∙ (λ i. reference_passes (c.args.brush.now.rule i) (c.stencil_span-stored.ensures j h i)) in
    let after = ap (λ r. stencil_after r passing deep p.ds.stencil) c.args.brush.now.rule in
    ap (λ ds. record { rgba = p.rgba; ds = ds })
    (stencil_lane b c.args.brush.now.kind (slice_index c.args.new.now j) p.ds (has c.args.pixels.bits j) passing deep (has c.args.pixels.bits j && (passing && deep)) false _ passes (c.deep_mask-deep.ensures j h) refl unwritten after))

pub returns-then-write-clause-bits : goal.returns-then-write-clause-bits
returns-then-write-clause-bits c =
    record {
      each = λ j h.
          let p = lane_pixel c.args.block.now c.args.pixels.span c.args.pixels.row j in
          let passes = c.passes-passing.ensures j h ∙ (λ i. reference_passes (c.args.brush.now.rule i) (c.stencil_span-stored.ensures j h i)) in
          has_both c.args.pixels.bits _ j _ (has_both c.passes-passing.result c.deep_mask-deep.result j _ refl
          ∙ stencil_passes_both c.args.brush.now.brush c.args.brush.now.kind (slice_index c.args.new.now j) p.ds _ _ passes (c.deep_mask-deep.ensures j h));
    }

pub returns-else-depth-clause-bits : goal.returns-else-depth-clause-bits
returns-else-depth-clause-bits c =
    record {
      each = λ j h.
          let p = lane_pixel c.args.block.now c.args.pixels.span c.args.pixels.row j in
          let passes = c.passes-passing.ensures j h ∙ (λ i. reference_passes (c.args.brush.now.rule i) (c.stencil_span-stored.ensures j h i)) in
          has_both c.args.pixels.bits _ j _ (has_both c.passes-passing.result c.deep_mask-deep.result j _ refl
          ∙ stencil_passes_both c.args.brush.now.brush c.args.brush.now.kind (slice_index c.args.new.now j) p.ds _ _ passes (c.deep_mask-deep.ensures j h));
    }
