use Rattle.std.proofs.Common.{rules}
use Rattle.port.proofs.pass.PortPass.sent.Goals as goal

pub returns : goal.returns
returns g c = search rules
