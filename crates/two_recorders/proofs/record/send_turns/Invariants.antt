use Rattle.std.proofs.Common.{◌≡◌}
use Rattle.two_recorders.proofs.record.send_turns.Given as goal

abbrev pub invariant-loop-turn : goal.invariant-loop-turn
invariant-loop-turn g l = (l.pass.queue ≡ l.ports.queue) × (l.pass.port ≡ l.initial.pass.port)
