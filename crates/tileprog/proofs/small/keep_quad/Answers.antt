use Rattle.std.proofs.Common.{◌∙◌, ap, sym}
use Rattle.std.specs.Prelude.{slice_index, if◌then◌else◌}
use Rattle.tileblock.specs.QuadStored.{quad_pixel}
use Rattle.tileprog.specs.Quads.{deepened_quad, picked}
use Rattle.tileprog.proofs.FourLanes.{quad_changed, quad_unchanged}
use Rattle.tileprog.proofs.small.keep_quad.Goals as goal

pub returns-then-write : goal.returns-then-write
returns-then-write c =
    quad_changed _ _ _ _ _ _ c.set_depth_quad.ensures (λ j h.
    let p = quad_pixel c.args.block.now c.args.pixels.quad c.args.pixels.row j in
    ap (λ d. record { rgba = p.rgba; ds = record { depth = d; stencil = p.ds.stencil } })
    (c.select4-kept.ensures j h ∙ ap (λ d. if picked c.args.pixels.picked j then slice_index c.args.new.now j else d) (c.requires j h))
    ∙ ap (λ t. deepened_quad t c.args.pixels.picked c.args.new.now j p) (sym c.if-write.true))

pub returns-else-write : goal.returns-else-write
returns-else-write c =
    quad_unchanged _ _ _ _ (λ j h.
    let p = quad_pixel c.args.block.now c.args.pixels.quad c.args.pixels.row j in
    ap (λ t. deepened_quad t c.args.pixels.picked c.args.new.now j p) (sym c.if-write.false))
