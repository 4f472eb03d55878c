use Rattle.std.proofs.Common.{◌≡◌, take}
use Rattle.immediate.specs.Outputs.{cut_over}
use Rattle.immediate.specs.Batched.{HasDrawn}
use Rattle.immediate.proofs.pending.run_each.Given as goal

abbrev pub invariant-loop-place : goal.invariant-loop-place
invariant-loop-place g l = record {
  kept : l.waiting ≡ l.fn.waiting;
  drawn : HasDrawn (cut_over l.fn.output (take l.place l.fn.waiting)) l.fn.output l.output;
}
