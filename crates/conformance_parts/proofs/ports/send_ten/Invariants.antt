use Rattle.std.proofs.Common.{◌≡◌}
use Rattle.conformance_parts.proofs.ports.send_ten.Given as goal

abbrev pub invariant-loop-list : goal.invariant-loop-list
invariant-loop-list g l = (l.pass.queue ≡ l.ports.queue) × (l.pass.port ≡ l.initial.pass.port)
