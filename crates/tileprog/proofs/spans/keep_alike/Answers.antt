use Rattle.std.proofs.Common.{◌∙◌, sym, subst, rules, ℕ, ◌<◌, ◌^◌}
use Rattle.std.specs.Prelude.{slice_index}
use Rattle.lanes.specs.Stencil.{has}
use Rattle.tileblock.specs.SpanStored.{lane_pixel}
use Rattle.tileprog.proofs.Spanning.{unchanged}
use Rattle.tileprog.proofs.Lanes.{has_both}
use Rattle.tileprog.proofs.CellLaws.{still_lane, still_bit}
use Rattle.tileprog.proofs.spans.keep_alike.Goals as goal

pub returns-clause-block : goal.returns-clause-block
returns-clause-block c = λ new known.
    let b = c.args.brush.now.brush in
    let old = c.args.block.now in
    let cover = c.args.pixels.bits in
    let deep = c.args.deep in
    let colors = c.color_span-colors.result in
    let fits : (j : ℕ) → slice_index colors j < 2 ^ 32 = search rules in
    let byte : (j : ℕ) → slice_index c.stencil_span-stored.result j < 256 = search rules in
    unchanged old c.args.pixels.span c.args.pixels.row _ (λ j h.
    let p = lane_pixel old c.args.pixels.span c.args.pixels.row j in
    let small : p.ds.stencil < 256 = subst (λ n. n < 256) (c.stencil_span-stored.ensures j h) (byte j) in
    still_lane b c.args.brush.now.kind c.args.brush.now.test c.args.brush.now.rule (slice_index new j) p deep c.requires.unwritten c.requires.still small
    (has cover j) _ (slice_index colors j) (fits j) (c.color_span-colors.ensures j h) (λ e. sym (known j h e)) (has_both cover c.all_lanes.result j deep (c.all_lanes.ensures j h)))

pub returns-clause-bits : goal.returns-clause-bits
returns-clause-bits c = λ new known.
    let b = c.args.brush.now.brush in
    let old = c.args.block.now in
    let cover = c.args.pixels.bits in
    let deep = c.args.deep in
    let byte : (j : ℕ) → slice_index c.stencil_span-stored.result j < 256 = search rules in
    record {
      each = λ j h.
          let p = lane_pixel old c.args.pixels.span c.args.pixels.row j in
          let small : p.ds.stencil < 256 = subst (λ n. n < 256) (c.stencil_span-stored.ensures j h) (byte j) in
          has_both cover c.all_lanes.result j deep (c.all_lanes.ensures j h)
          ∙ still_bit b c.args.brush.now.kind c.args.brush.now.test c.args.brush.now.rule (slice_index new j) p deep c.requires.unwritten c.requires.still small (has cover j) (λ e. sym (known j h e));
    }
