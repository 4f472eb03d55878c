use Rattle.std.proofs.Common.{◌≡◌, take}
use Rattle.tilerun.proofs.running.counts_of.Given as goal

abbrev pub invariant-loop-issue : goal.invariant-loop-issue
invariant-loop-issue g l = l.counts.items ≡ take l.issue l.finished.counts
