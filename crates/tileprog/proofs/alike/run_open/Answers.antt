use Rattle.std.proofs.Common.{◌∙◌, ap, ◌-◌, ◌*◌}
use Rattle.gfxspec.specs.declared.geometry.PixelRect.{PixelRect}
use Rattle.tileblock.specs.Block.{pixel_at}
use Rattle.binner.specs.Program.{outcome}
use Rattle.tileprog.proofs.AlikeLaws.{open_pixel, open_passes, all_counted}
use Rattle.tileprog.proofs.alike.run_open.Goals as goal

pub returns-clause-pixels : goal.returns-clause-pixels
returns-clause-pixels c = λ u v is.
    c.paint_tile.ensures.pixels u v is ∙ open_pixel c.args.triangle.now c.args.entry.now c.requires.open c.args.block.now u v c.args.flip.now

pub returns-clause-count : goal.returns-clause-count
returns-clause-count c =
    let t = c.args.triangle.now in
    let e = c.args.entry.now in
    let b = c.args.block.now in
    c.pixels_in.ensures.value
    ∙ ap (λ (r : PixelRect). (r.right - r.left) * (r.bottom - r.top)) c.rect-rect.ensures
    ∙ all_counted b.rect (λ u v. (outcome t e u v (pixel_at b u v)).passed) (λ u v is. open_passes t e c.requires.open b u v)
