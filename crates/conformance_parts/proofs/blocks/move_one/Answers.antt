use Rattle.std.proofs.Common.{◌≡◌, ◌<◌, None, sym, subst}
use Rattle.gfxspec.specs.Tiles.{tile_count}
use Rattle.tileblock.specs.Surface.{Surface, block_of}
use Rattle.tileblock.proofs.Slots.{has_block_within, block_of-without_same}
use Rattle.conformance_parts.proofs.blocks.move_one.Goals as goal

pub put-requires-clause-out : goal.put-requires-clause-out
put-requires-clause-out g c =
    let s = c.args.target.now in let t = c.args.tile in (
      subst (λ (x : Surface). t < tile_count x.size) (sym c.take-out.ensures.after) c.requires.1,
      subst (λ (x : Surface). block_of x t ≡ None) (sym c.take-out.ensures.after) (block_of-without_same s t (has_block_within s t (c.requires.0 t c.requires.1))),
    )
