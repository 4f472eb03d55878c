use Rattle.std.proofs.Common.{◌≡◌, take}
use Rattle.tileprog.proofs.order.first_of.Given as goal

abbrev pub invariant-loop-issue : goal.invariant-loop-issue
invariant-loop-issue l = l.counts.items ≡ take l.issue l.totals
