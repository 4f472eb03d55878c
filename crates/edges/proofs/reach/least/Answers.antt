use Rattle.std.proofs.Common.{rules}
use Rattle.edges.proofs.reach.least.Goals as goal

pub min-requires : goal.min-requires
min-requires c = search rules

pub min-requires-2 : goal.min-requires-2
min-requires-2 c = search rules

pub returns-clause-value : goal.returns-clause-value
returns-clause-value c = search rules

pub returns-clause-range : goal.returns-clause-range
returns-clause-range c = search rules
