use Rattle.std.proofs.Common.{◌≡◌, ◌≤◌, length}
use Rattle.tilecore.specs.Schedule.{counted}
use Rattle.conformance_parts.proofs.boards.quiet.play_all.Given as goal

abbrev pub invariant-loop-turn : goal.invariant-loop-turn
invariant-loop-turn g l = (length l.core.workers ≡ 2) × (length l.core.sums ≡ 1) × (counted l.core 0 ≤ l._turn)
