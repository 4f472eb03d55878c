use Rattle.std.proofs.Common.{arith}
use Rattle.std.proofs.lemmas.Grind.{common_steps}
use Rattle.edges.proofs.bias_of.Goals as goal

pub returns-then-is_top_or_left-clause-value : goal.returns-then-is_top_or_left-clause-value
returns-then-is_top_or_left-clause-value c = grind (arith, common_steps)

pub returns-else-is_top_or_left-clause-value : goal.returns-else-is_top_or_left-clause-value
returns-else-is_top_or_left-clause-value c = grind (arith, common_steps)
