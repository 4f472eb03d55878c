use Rattle.std.proofs.Common.{◌≡◌, drop, None}
use Rattle.recorders.specs.Ending.{first_of}
use Rattle.recorders.proofs.refusal.first_refused.Given as goal

abbrev pub invariant-loop-end : goal.invariant-loop-end
invariant-loop-end l = first_of None l.fn.ends ≡ first_of l.first (drop l.end-index l.fn.ends)
