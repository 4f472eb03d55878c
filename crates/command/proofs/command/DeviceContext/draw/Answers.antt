use Rattle.std.proofs.Common.{rules}
use Rattle.command.proofs.command.DeviceContext.draw.Goals as goal

pub returns : goal.returns
returns g c = search rules
