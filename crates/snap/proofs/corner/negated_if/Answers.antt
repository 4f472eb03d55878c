use Rattle.std.proofs.Common.{rules}
use Rattle.snap.proofs.corner.negated_if.Goals as goal

pub returns-then-flip-clause-value : goal.returns-then-flip-clause-value
returns-then-flip-clause-value c = search rules

pub returns-else-flip-clause-value : goal.returns-else-flip-clause-value
returns-else-flip-clause-value c = search rules
