use Rattle.std.proofs.Common.{◌≡◌, length}
use Rattle.conformance_parts.proofs.boards.quiet.read_all.Given as goal

abbrev pub invariant-loop : goal.invariant-loop
invariant-loop g l = length l.finished.counts ≡ 1
