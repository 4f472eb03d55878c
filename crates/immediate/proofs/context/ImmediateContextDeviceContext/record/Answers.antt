use Rattle.std.proofs.Common.{rules}
use Rattle.immediate.proofs.context.ImmediateContextDeviceContext.record.Goals as goal

pub returns : goal.returns
returns g c = search rules
