use Rattle.std.proofs.Common.{arith, rules}
use Rattle.cmdlist.proofs.context.DeferredContext.is_kept_state_alone.Goals as goal
use Rattle.std.proofs.lemmas.Grind.{common_steps}

pub bounds-0 : goal.bounds-0
bounds-0 g c = search rules

pub bounds-0-2 : goal.bounds-0-2
bounds-0-2 g c = search rules

pub returns-in-Kept-clause-value : goal.returns-in-Kept-clause-value
returns-in-Kept-clause-value g c = grind (arith, common_steps)

pub returns-in-Kept-clause-same : goal.returns-in-Kept-clause-same
returns-in-Kept-clause-same g c = grind (arith, common_steps)

pub returns-in_default-clause-value : goal.returns-in_default-clause-value
returns-in_default-clause-value g c = grind (arith, common_steps)

pub returns-in_default-clause-same : goal.returns-in_default-clause-same
returns-in_default-clause-same g c = search rules

pub returns-in_default-2 : goal.returns-in_default-2
returns-in_default-2 g c = grind (arith, common_steps)

pub returns-in_default-3-clause-value : goal.returns-in_default-3-clause-value
returns-in_default-3-clause-value g c = grind (arith, common_steps)

pub returns-in_default-3-clause-same : goal.returns-in_default-3-clause-same
returns-in_default-3-clause-same g c = search rules
