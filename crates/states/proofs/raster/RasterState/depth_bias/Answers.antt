use Rattle.std.proofs.Common.{rules}
use Rattle.states.proofs.raster.RasterState.depth_bias.Goals as goal

pub returns : goal.returns
returns c = search rules
