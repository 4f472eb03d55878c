use Rattle.immediate.proofs.Telling.{ToldSoFar}
use Rattle.immediate.proofs.output.told_by.Given as goal

abbrev pub invariant-loop-query : goal.invariant-loop-query
invariant-loop-query l = ToldSoFar l.results l.query l.told
