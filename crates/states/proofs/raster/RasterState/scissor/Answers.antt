use Rattle.std.proofs.Common.{rules}
use Rattle.states.proofs.raster.RasterState.scissor.Goals as goal

pub returns : goal.returns
returns c = search rules
