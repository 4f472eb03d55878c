use Rattle.std.proofs.Common.{arith}
use Rattle.std.proofs.lemmas.Grind.{common_steps}
use Rattle.depthplane.proofs.start.extremes.Goals as goal

pub returns-clause-low : goal.returns-clause-low
returns-clause-low c = grind (arith, common_steps)

pub returns-clause-high : goal.returns-clause-high
returns-clause-high c = grind (arith, common_steps)
