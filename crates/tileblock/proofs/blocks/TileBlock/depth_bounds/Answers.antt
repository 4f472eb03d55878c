use Rattle.std.proofs.Common.{◌≡◌, ◌∙◌, ap, sym, arith}
use Rattle.gfxspec.specs.declared.pixel.DepthStencil.{DepthStencil}
use Rattle.tileblock.specs.Block.{Block, pixel_at}
use Rattle.tileblock.proofs.Clearing.{depth_is}
use Rattle.tileblock.proofs.blocks.TileBlock.depth_bounds.Goals as goal

pub returns-in-Some : goal.returns-in-Some
returns-in-Some g c x y inside =
    let b = c.self.inside in
    let e : (pixel_at c.args.self.now x y).ds.depth ≡ c.in-Some.value.depth
    = ap (λ (now : Block). (pixel_at now x y).ds.depth) (sym c.self.view_is)
    ∙ ap (λ (v : DepthStencil). v.depth) (depth_is b.rect b.stored.items x y b.color b.depth_stencil c.in-Some.value c.in-Some.is) in
    (omega (arith, e), omega (arith, e))
