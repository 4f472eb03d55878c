use Rattle.std.proofs.Common.{rules}
use Rattle.states.proofs.raster.RasterStateDefault.default.Goals as goal

pub returns : goal.returns
returns c = search rules
