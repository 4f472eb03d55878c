use Rattle.std.proofs.Common.{◌≡◌}
use Rattle.two_recorders.proofs.execute.take_all.Given as goal

abbrev pub invariant-loop : goal.invariant-loop
invariant-loop g l = l.drain.queue ≡ l.ports.queue
