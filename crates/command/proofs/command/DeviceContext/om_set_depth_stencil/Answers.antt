use Rattle.std.proofs.Common.{rules}
use Rattle.command.proofs.command.DeviceContext.om_set_depth_stencil.Goals as goal

pub returns : goal.returns
returns g c = search rules
