use Rattle.std.proofs.Common.{rules}
use Rattle.depthplane.proofs.height.sum_wider.Goals as goal

pub overflow_add-result : goal.overflow_add-result
overflow_add-result c = search rules

pub overflow_add-result-2 : goal.overflow_add-result-2
overflow_add-result-2 c = search rules

pub returns-clause-value : goal.returns-clause-value
returns-clause-value c = search rules

pub returns-clause-bound : goal.returns-clause-bound
returns-clause-bound c = search rules
