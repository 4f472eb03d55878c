use Rattle.std.proofs.Common.{◌≡◌, ◌<◌, ap, arith, subst, Some}
use Rattle.gfxspec.specs.Tiles.{tile_of}
use Rattle.tileblock.specs.Surface.{Surface, block_of}
use Rattle.tileblock.proofs.Slots.{block_of-at_pixel}
use Rattle.tileblock.proofs.targets.Target.block_at.Goals as goal

pub returns-clause-block : goal.returns-clause-block
returns-clause-block g c =
    let s : Surface = record { size = c.self.inside.size; blocks = c.self.inside.blocks.items } in
    let x : c.args.x < s.size.width = omega (arith, c.requires.x, ap (λ (now : Surface). now.size.width) c.self.view_is) in
    let y : c.args.y < s.size.height = omega (arith, c.requires.y, ap (λ (now : Surface). now.size.height) c.self.view_is) in
    subst (λ (now : Surface). block_of now (tile_of now.size c.args.x c.args.y) ≡ Some c.in-Some.block) c.self.view_is
    (block_of-at_pixel s c.tiles_along.result c.args.x c.args.y c.index.result.now c.in-Some.block c.self.invariant x y c.tiles_along.ensures.value c.index.ensures c.in-Some.is)
