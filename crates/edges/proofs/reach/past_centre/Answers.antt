use Rattle.std.proofs.Common.{rules}
use Rattle.edges.proofs.reach.past_centre.Goals as goal

pub overflow_add-place : goal.overflow_add-place
overflow_add-place c = search rules

pub div_euclid-requires-clause-nonzero : goal.div_euclid-requires-clause-nonzero
div_euclid-requires-clause-nonzero c = search rules

pub div_euclid-requires-clause-no_overflow : goal.div_euclid-requires-clause-no_overflow
div_euclid-requires-clause-no_overflow c = search rules

pub clamp-requires : goal.clamp-requires
clamp-requires c = search rules

pub overflow_cast-result : goal.overflow_cast-result
overflow_cast-result c = search rules

pub returns-clause-centres : goal.returns-clause-centres
returns-clause-centres c = search rules

pub returns-clause-bound : goal.returns-clause-bound
returns-clause-bound c = search rules
