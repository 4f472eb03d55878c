use Rattle.std.proofs.Common.{refl, rules}
use Rattle.std.proofs.lemmas.Nat.{le_bytes_4}
use Rattle.std.specs.Int.{w32, from_le_bytes}
use Rattle.tileblock.proofs.PixelLaws.{Stores, pixel_at_stored}
use Rattle.tileblock.specs.Block.{Block}
use Rattle.tileblock.proofs.pixels.TilePixels.set.Goals as goal

pub returns-clause-here : goal.returns-clause-here
returns-clause-here c =
    let inside = c.self.inside in
    let old : Block = record { rect = inside.rect; colors = inside.spans.colors; depths = inside.spans.depths; stencils = inside.spans.stencils } in
    let after = c.set.new.self in
    let new : Block = record { rect = inside.rect; colors = after.colors; depths = after.depths; stencils = after.stencils } in
    let e = c.set.ensures in
    let s : Stores old new c.args.x c.args.y c.args.pixel = record { colors = e.colors; depths = e.depths; stencils = e.stencils } in
    pixel_at_stored old new c.args.x c.args.y c.args.pixel c.self.invariant.block s (le_bytes_4 c.args.pixel.rgba (from_le_bytes w32 c.args.pixel.rgba) (search rules) (search rules) refl)
