use Rattle.std.proofs.Common.{rules}
use Rattle.cmdlist.proofs.draws.is_withheld.Goals as goal

pub returns-in-Some : goal.returns-in-Some
returns-in-Some c = search rules
