use Rattle.std.proofs.Common.{rules}
use Rattle.states.proofs.raster.RasterState.cull.Goals as goal

pub returns : goal.returns
returns c = search rules
