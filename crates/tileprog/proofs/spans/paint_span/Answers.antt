use Rattle.std.proofs.Common.{◌∙◌, ap, sym, rules, ℕ, ◌<◌, ◌^◌}
use Rattle.std.specs.Prelude.{slice_index, if◌then◌else◌}
use Rattle.std.specs.Int.{to_le_bytes, w32}
use Rattle.std.proofs.lemmas.List.{get_or-replicate}
use Rattle.lanes.specs.Stencil.{has}
use Rattle.tileblock.specs.SpanStored.{lane_pixel}
use Rattle.tileprog.proofs.Spanning.{changed, unchanged}
use Rattle.tileprog.proofs.Lanes.{has_all, has_none, lane_painted, lane_kept, lane_unpainted, lane_chosen, with_color, kept_all, kept_none}
use Rattle.tileprog.proofs.spans.paint_span.Goals as goal

pub returns-then-bits-eq0 : goal.returns-then-bits-eq0
returns-then-bits-eq0 c =
    unchanged _ _ _ _ (λ j h. lane_unpainted c.args.brush.now (lane_pixel c.args.block.now c.args.pixels.span c.args.pixels.row j) (has c.args.pixels.bits j) (has_none c.args.pixels.bits j c.if-bits-eq0.true))

pub returns-then-write-eq0 : goal.returns-then-write-eq0
returns-then-write-eq0 c =
    let b = c.args.brush.now in
    let bits = c.args.pixels.bits in
    let old = c.color_span-old.result in
    let small : (j : ℕ) → slice_index old j < 2 ^ 32 = search rules in
    changed _ _ _ _ _ _ c.set_color_span.ensures (λ j h.
    let p = lane_pixel c.args.block.now c.args.pixels.span c.args.pixels.row j in
    let q = slice_index old j in
    with_color p _ _ (ap (to_le_bytes w32) (get_or-replicate 8 j b.write.flip 0 h) ∙ lane_painted b p (has bits j) q b.write.flip b.write.flip (small j) (c.color_span-old.ensures j h) (kept_none q b.write.keep b.write.flip c.if-write-eq0.true)
    (ap (λ t. if t then b.write.flip else q) (sym (has_all bits j c.if-bits.true h)))))

pub returns-then-write-eq0-2 : goal.returns-then-write-eq0-2
returns-then-write-eq0-2 c =
    let b = c.args.brush.now in
    let old = c.color_span-old.result in
    let small : (j : ℕ) → slice_index old j < 2 ^ 32 = search rules in
    unchanged _ _ _ _ (λ j h.
    lane_kept b (lane_pixel c.args.block.now c.args.pixels.span c.args.pixels.row j) (has c.args.pixels.bits j) (slice_index old j) (small j) (c.color_span-old.ensures j h)
    (kept_all (slice_index old j) b.write.keep b.write.flip (small j) c.if-write.true c.if-write-eq0-2.true))

pub returns-then-bits-2 : goal.returns-then-bits-2
returns-then-bits-2 c =
    let b = c.args.brush.now in
    let bits = c.args.pixels.bits in
    let new = c.write8-new.result in
    let old = c.color_span-old.result in
    let small : (j : ℕ) → slice_index old j < 2 ^ 32 = search rules in
    changed _ _ _ _ _ _ c.set_color_span-then-bits-2.ensures (λ j h.
    let p = lane_pixel c.args.block.now c.args.pixels.span c.args.pixels.row j in
    let q = slice_index old j in
    let n = slice_index new j in
    with_color p _ _ (lane_painted b p (has bits j) q n n (small j) (c.color_span-old.ensures j h) (c.write8-new.ensures j h)
    (ap (λ t. if t then n else q) (sym (has_all bits j c.if-bits-2.true h)))))

pub returns-else-bits-2 : goal.returns-else-bits-2
returns-else-bits-2 c =
    let b = c.args.brush.now in
    let old = c.color_span-old.result in
    let small : (j : ℕ) → slice_index old j < 2 ^ 32 = search rules in
    changed _ _ _ _ _ _ c.set_color_lanes.ensures (λ j h.
    lane_chosen b (lane_pixel c.args.block.now c.args.pixels.span c.args.pixels.row j) (has c.args.pixels.bits j) (slice_index old j) (slice_index c.write8-new.result j) (small j) (c.color_span-old.ensures j h)
    (c.write8-new.ensures j h))
