use Rattle.std.proofs.Common.{◌≡◌, rules, subst, ℕ}
use Rattle.std.specs.Int.{w32, to_le_bytes}
use Rattle.std.specs.Prelude.{IfSome}
use Rattle.tileblock.specs.Block.{Block, pixel_at}
use Rattle.tileblock.proofs.Clearing.{plain_shows}
use Rattle.tileblock.proofs.blocks.TileBlock.plain_color.Goals as goal

pub returns : goal.returns
returns g c =
    let b = c.self.inside in
    let Shows : Block → Type 0 = λ now. IfSome c.plain_of.result (λ n. (x y : ℕ) → to_le_bytes w32 n ≡ (pixel_at now x y).rgba) in
    subst Shows c.self.view_is (plain_shows b.rect b.stored.items b.color b.depth_stencil c.is_empty.result c.plain_of.result (λ e. search rules) c.plain_of.ensures)
