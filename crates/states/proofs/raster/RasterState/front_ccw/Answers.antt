use Rattle.std.proofs.Common.{rules}
use Rattle.states.proofs.raster.RasterState.front_ccw.Goals as goal

pub returns : goal.returns
returns c = search rules
