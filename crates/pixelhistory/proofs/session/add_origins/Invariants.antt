use Rattle.pixelhistory.proofs.Passing.{Added}
use Rattle.pixelhistory.proofs.session.add_origins.Given as goal

abbrev pub invariant-loop-number : goal.invariant-loop-number
invariant-loop-number g l = Added l.from l.first l.origin l.number l.fn.trace l.trace
