use Rattle.std.proofs.Common.{◌≡◌, ◌∙◌, ap, sym, ◌+◌, ◌*◌, ◌/◌, ◌%◌}
use Rattle.std.specs.Int.{w32, to_le_bytes}
use Rattle.tileblock.specs.Block.{Block, value_at, span_of}
use Rattle.tileblock.specs.QuadStored.{quad_pixel}
use Rattle.tileblock.proofs.Halves.{place_is, lane_is}
use Rattle.tileblock.proofs.pixels.TilePixels.color_quad.Goals as goal

pub returns : goal.returns
returns c = λ j h.
    let b = c.self.inside in
    let block : Block = record { rect = b.rect; colors = b.spans.colors; depths = b.spans.depths; stencils = b.spans.stencils } in
    let tile = c.self.invariant.block.rect in
    let quad = c.args.quad in
    let row = c.args.row in
    let x = b.rect.left + 4 * quad + j in
    let y = b.rect.top + row in
    let there : value_at block.colors (span_of x y) (x % 8) ≡ value_at block.colors (4 * row + quad / 2) (quad % 2 * 4 + j) =
    λ i. value_at block.colors (place_is b.rect tile quad row c.requires.quad c.requires.row j h i) (lane_is b.rect tile quad row c.requires.quad c.requires.row j h i) in
    ap (to_le_bytes w32) (c.half_of.ensures j h ∙ sym there) ∙ ap (λ (b : Block). (quad_pixel b quad row j).rgba) c.self.view_is
