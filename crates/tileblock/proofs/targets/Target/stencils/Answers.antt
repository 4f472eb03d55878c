use Rattle.std.proofs.Common.{◌∙◌, ap, sym}
use Rattle.gfxspec.specs.declared.pixel.Pixel.{Pixel}
use Rattle.tileblock.proofs.Rows.{place_pixel}
use Rattle.tileblock.proofs.targets.Target.stencils.Goals as goal

pub returns : goal.returns
returns g c j h =
    let place = place_pixel c.args.self.now c.args.x c.args.y j c.block_at.result.now c.block_at.ensures.sound c.requires.x h c.block_at.ensures.block in
    c.stencil_span.ensures j h ∙ ap (λ (p : Pixel). p.ds.stencil) (sym place)
