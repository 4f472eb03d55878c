use Rattle.std.proofs.Common.{rules}
use Rattle.command.proofs.settings.State.change.Goals as goal

pub returns-in-Kept : goal.returns-in-Kept
returns-in-Kept g c = search rules
