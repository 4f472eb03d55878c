use Rattle.std.proofs.Common.{◌≡◌}
use Rattle.conformance_parts.proofs.ports.quiet.send_and_take.Given as goal

abbrev pub invariant-loop-list : goal.invariant-loop-list
invariant-loop-list g l = (l.pass.queue ≡ l.ports.queue) × (l.pass.port ≡ l.initial.pass.port) × (l.drain.queue ≡ l.ports.queue)

abbrev pub invariant-loop-list-2 : goal.invariant-loop-list-2
invariant-loop-list-2 g l = (l.pass.queue ≡ l.ports.queue) × (l.pass.port ≡ l.initial.pass.port) × (l.drain.queue ≡ l.ports.queue)

abbrev pub invariant-loop : goal.invariant-loop
invariant-loop g l = (l.pass.queue ≡ l.ports.queue) × (l.pass.port ≡ l.initial.pass.port) × (l.drain.queue ≡ l.ports.queue)
