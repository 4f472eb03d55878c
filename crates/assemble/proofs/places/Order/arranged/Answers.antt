use Rattle.std.proofs.Common.{rules}
use Rattle.assemble.proofs.places.Order.arranged.Goals as goal

pub returns-in-Odd : goal.returns-in-Odd
returns-in-Odd c = search rules
