use Rattle.std.proofs.Common.{rules}
use Rattle.binner.proofs.ahead.note.Goals as goal

pub returns-in_ok-push : goal.returns-in_ok-push
returns-in_ok-push g c = search rules
