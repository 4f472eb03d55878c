-- A block lends its pixels: it ends as they do.
use Rattle.std.specs.Borrow.{Lends, MutBor, Fml}
use Rattle.std.specs.declared.alloc.Allocator as allocator
use denote.RattleType.{RattleType}
use Rattle.tileblock.specs.Block.{Block}
use Rattle.tileblock.specs.contracts.pixels.TilePixels.{the_row as pixels_row}
use Rattle.tileblock.specs.contracts.blocks.TileBlock.{the_row}

abbrev pub LendsPixels : (A : RattleType) → allocator.Ghosts A.Denot → MutBor Block → MutBor Block → Fml
LendsPixels A a b r = Lends (the_row A a) pixels_row b r (λ w. w)
