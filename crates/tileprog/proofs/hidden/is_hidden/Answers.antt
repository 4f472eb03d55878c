use Rattle.std.proofs.Common.{rules}
use Rattle.tileprog.proofs.hidden.is_hidden.Goals as goal

pub returns : goal.returns
returns c = search rules
