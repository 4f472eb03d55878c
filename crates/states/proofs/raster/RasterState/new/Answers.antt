use Rattle.std.proofs.Common.{rules}
use Rattle.states.proofs.raster.RasterState.new.Goals as goal

pub returns : goal.returns
returns c = search rules
