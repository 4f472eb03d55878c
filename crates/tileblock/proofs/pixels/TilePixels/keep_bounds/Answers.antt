use Rattle.std.proofs.Common.{rules}
use Rattle.tileblock.proofs.pixels.TilePixels.keep_bounds.Goals as goal

pub invariant_of-self : goal.invariant_of-self
invariant_of-self c = search rules
