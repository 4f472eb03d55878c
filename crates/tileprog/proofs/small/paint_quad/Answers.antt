use Rattle.std.proofs.Common.{rules, ℕ, ◌<◌, ◌^◌, ◌∙◌, ap, bit_and}
use Rattle.std.specs.Prelude.{slice_index, bit_xor}
use Rattle.logicop.specs.declared.color_write.ColorWrite.{ColorWrite}
use Rattle.tileblock.specs.QuadStored.{quad_pixel}
use Rattle.tileprog.specs.Quads.{picked}
use Rattle.tileprog.proofs.FourLanes.{quad_changed}
use Rattle.tileprog.proofs.Lanes.{lane_painted, with_color}
use Rattle.tileprog.proofs.small.paint_quad.Goals as goal

pub returns : goal.returns
returns c =
    let old = c.color_quad-old.result in
    let small : (j : ℕ) → slice_index old j < 2 ^ 32 = search rules in
    quad_changed _ _ _ _ _ _ c.set_color_quad.ensures (λ j h.
    let p = quad_pixel c.args.block.now c.args.pixels.quad c.args.pixels.row j in
    with_color p _ _ (lane_painted c.args.brush.now.brush p (picked c.args.pixels.picked j) (slice_index old j) (slice_index c.write4-new.result j) (slice_index c.select4-painted.result j) (small j)
    (c.color_quad-old.ensures j h)
    (c.write4-new.ensures j h ∙ ap (λ (w : ColorWrite). bit_xor (bit_and (slice_index old j) w.keep) w.flip) c.colors.ensures) (c.select4-painted.ensures j h)))
