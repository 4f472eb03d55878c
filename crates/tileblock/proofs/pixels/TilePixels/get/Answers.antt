use Rattle.std.proofs.Common.{rules}
use Rattle.tileblock.proofs.pixels.TilePixels.get.Goals as goal

pub returns : goal.returns
returns c = search rules
