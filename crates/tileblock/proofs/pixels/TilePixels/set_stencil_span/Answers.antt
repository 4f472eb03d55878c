use Rattle.std.proofs.Common.{rules}
use Rattle.tileblock.proofs.pixels.TilePixels.set_stencil_span.Goals as goal

pub returns : goal.returns
returns c = search rules
