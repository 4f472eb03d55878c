use Rattle.std.proofs.Common.{rules}
use Rattle.tileblock.proofs.pixels.TilePixels.set_color_lanes.Goals as goal

pub returns : goal.returns
returns c = search rules
