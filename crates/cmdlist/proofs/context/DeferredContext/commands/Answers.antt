use Rattle.std.proofs.Common.{rules}
use Rattle.cmdlist.proofs.context.DeferredContext.commands.Goals as goal

pub returns-clause-commands : goal.returns-clause-commands
returns-clause-commands g c = search rules
