use Rattle.std.proofs.Common.{◌∙◌, ap, sym, rules, ◌+◌, ◌*◌}
use Rattle.std.specs.Int.{w32, to_le_bytes}
use Rattle.tileblock.specs.Block.{Block, pixel_at}
use Rattle.tileblock.proofs.Clearing.{eight_alike, plain_is}
use Rattle.tileblock.proofs.blocks.TileBlock.color_span.Goals as goal

pub returns-in-Some : goal.returns-in-Some
returns-in-Some g c j h =
    let b = c.self.inside in
    let x = c.args.self.now.rect.left + 8 * c.args.span + j in
    let y = c.args.self.now.rect.top + c.args.row in
    ap (to_le_bytes w32) (eight_alike c.in-Some.color j h)
    ∙ plain_is b.rect b.stored.items x y b.color b.depth_stencil _ c.in-Some.color (λ e. search rules) (sym c.plain_of.ensures ∙ c.in-Some.is)
    ∙ ap (λ (now : Block). (pixel_at now x y).rgba) c.self.view_is
