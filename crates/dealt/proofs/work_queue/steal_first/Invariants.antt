use Rattle.std.proofs.Common.{◌≡◌, All, length}
use Rattle.dealt.proofs.work_queue.steal_first.Given as goal

abbrev pub invariant-loop-i : goal.invariant-loop-i
invariant-loop-i g l = All (λ t. t ≡ l.tiles) l.stealers × (length l.stealers ≡ length l.initial.stealers)
