use Rattle.std.proofs.Common.{rules}
use Rattle.command.proofs.buffer.Buffer.as_slice.Goals as goal

pub returns-in-Some : goal.returns-in-Some
returns-in-Some g c = search rules
