use Rattle.std.proofs.Common.{rules}
use Rattle.edges.proofs.reach.greatest.Goals as goal

pub max-requires : goal.max-requires
max-requires c = search rules

pub max-requires-2 : goal.max-requires-2
max-requires-2 c = search rules

pub returns-clause-value : goal.returns-clause-value
returns-clause-value c = search rules

pub returns-clause-range : goal.returns-clause-range
returns-clause-range c = search rules
