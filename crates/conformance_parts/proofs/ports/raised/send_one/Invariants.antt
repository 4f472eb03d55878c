use Rattle.std.proofs.Common.{◌≡◌}
use Rattle.conformance_parts.proofs.ports.raised.send_one.Given as goal

abbrev pub invariant-loop : goal.invariant-loop
invariant-loop g l = (l.pass.queue ≡ l.ports.queue) × (l.pass.port ≡ l.initial.pass.port)
