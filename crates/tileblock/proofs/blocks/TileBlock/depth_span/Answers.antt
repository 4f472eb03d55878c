use Rattle.std.proofs.Common.{◌≡◌, ◌∙◌, ap, sym, rules, ◌+◌, ◌*◌, [], None}
use Rattle.gfxspec.specs.declared.pixel.Pixel.{Pixel}
use Rattle.gfxspec.specs.declared.pixel.DepthStencil.{DepthStencil}
use Rattle.tileblock.specs.Block.{Block, pixel_at}
use Rattle.tileblock.proofs.Clearing.{eight_alike, depth_is, depth_stays, none_stored}
use Rattle.tileblock.proofs.blocks.TileBlock.depth_span.Goals as goal

pub returns-in-Some : goal.returns-in-Some
returns-in-Some g c j h =
    let b = c.self.inside in
    let x = c.args.self.now.rect.left + 8 * c.args.span + j in
    let y = c.args.self.now.rect.top + c.args.row in
    eight_alike c.in-Some.value.depth j h
    ∙ sym (ap (λ (v : DepthStencil). v.depth) (depth_is b.rect b.stored.items x y b.color b.depth_stencil c.in-Some.value c.in-Some.is))
    ∙ ap (λ (now : Block). (pixel_at now x y).ds.depth) c.self.view_is

pub returns-then-is_empty : goal.returns-then-is_empty
returns-then-is_empty g c j h =
    let b = c.self.inside in
    let x = c.args.self.now.rect.left + 8 * c.args.span + j in
    let y = c.args.self.now.rect.top + c.args.row in
    let none : b.stored.items ≡ [] = search rules in
    let value : b.depth_stencil ≡ None = search rules in
    eight_alike _ j h
    ∙ sym (ap (λ (v : DepthStencil). v.depth) (depth_stays b.rect b.stored.items x y b.color b.depth_stencil value) ∙ ap (λ (p : Pixel). p.ds.depth) (none_stored b.rect b.stored.items x y none))
    ∙ ap (λ (now : Block). (pixel_at now x y).ds.depth) c.self.view_is
