use Rattle.std.proofs.Common.{◌≡◌}
use Rattle.conformance_parts.proofs.ports.take_forty.Given as goal

abbrev pub invariant-loop : goal.invariant-loop
invariant-loop g l = l.drain.queue ≡ l.ports.queue
