use Rattle.std.proofs.Common.{rules}
use Rattle.depthplane.proofs.height.Linear.sum.Goals as goal

pub sum_wide-requires-clause-first : goal.sum_wide-requires-clause-first
sum_wide-requires-clause-first c = search rules

pub sum_wide-requires-clause-second : goal.sum_wide-requires-clause-second
sum_wide-requires-clause-second c = search rules

pub sum_wide-requires-clause-third : goal.sum_wide-requires-clause-third
sum_wide-requires-clause-third c = search rules

pub sum-requires-clause-first : goal.sum-requires-clause-first
sum-requires-clause-first c = search rules

pub sum-requires-clause-second : goal.sum-requires-clause-second
sum-requires-clause-second c = search rules

pub sum-requires-clause-third : goal.sum-requires-clause-third
sum-requires-clause-third c = search rules

pub sum-requires-2-clause-first : goal.sum-requires-2-clause-first
sum-requires-2-clause-first c = search rules

pub sum-requires-2-clause-second : goal.sum-requires-2-clause-second
sum-requires-2-clause-second c = search rules

pub sum-requires-2-clause-third : goal.sum-requires-2-clause-third
sum-requires-2-clause-third c = search rules

pub returns-clause-value : goal.returns-clause-value
returns-clause-value c = search rules

pub returns-clause-small : goal.returns-clause-small
returns-clause-small c = search rules
