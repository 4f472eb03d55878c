use Rattle.std.proofs.Common.{arith}
use Rattle.tilecore.proofs.machine.made_crew.Goals as goal
use Rattle.std.proofs.lemmas.Grind.{common_steps}

pub loop-preserved : goal.loop-preserved
loop-preserved g c = grind (arith, common_steps)
