use Rattle.std.proofs.Common.{rules, arith}
use Rattle.depthplane.proofs.height.side_times.Goals as goal
use Rattle.std.proofs.lemmas.Grind.{common_steps}

pub overflow_cast-result : goal.overflow_cast-result
overflow_cast-result c = search rules

pub overflow_cast-result-2 : goal.overflow_cast-result-2
overflow_cast-result-2 c = search rules

pub overflow_mul-result : goal.overflow_mul-result
overflow_mul-result c = grind (arith, common_steps)

pub returns-clause-value : goal.returns-clause-value
returns-clause-value c = grind (arith, common_steps)

pub returns-clause-bound : goal.returns-clause-bound
returns-clause-bound c = grind (arith, common_steps)
