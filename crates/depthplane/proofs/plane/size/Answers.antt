use Rattle.std.proofs.Common.{rules}
use Rattle.depthplane.proofs.plane.size.Goals as goal

pub abs-requires : goal.abs-requires
abs-requires c = search rules

pub returns-clause-value : goal.returns-clause-value
returns-clause-value c = search rules

pub returns-clause-divisor : goal.returns-clause-divisor
returns-clause-divisor c = search rules
