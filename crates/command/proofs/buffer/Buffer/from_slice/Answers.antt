use Rattle.std.proofs.Common.{rules}
use Rattle.command.proofs.buffer.Buffer.from_slice.Goals as goal

pub returns : goal.returns
returns g c = search rules
