use Rattle.std.proofs.Common.{◌≡◌}
use Rattle.conformance_parts.proofs.ports.at_most_64_wait.Given as goal

abbrev pub invariant-loop-list : goal.invariant-loop-list
invariant-loop-list g l = l.zero.queue ≡ l.ports.queue
