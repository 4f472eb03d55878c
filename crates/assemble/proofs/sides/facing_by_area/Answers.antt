use Rattle.std.proofs.Common.{rules}
use Rattle.assemble.proofs.sides.facing_by_area.Goals as goal

pub returns-in-false-false : goal.returns-in-false-false
returns-in-false-false c = search rules

pub returns-in-false-false-2 : goal.returns-in-false-false-2
returns-in-false-false-2 c = search rules
