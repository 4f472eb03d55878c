use Rattle.std.proofs.Common.{◌≡◌, All, length}
use Rattle.dealt.proofs.work_queue.share.Given as goal

abbrev pub invariant-loop-thief : goal.invariant-loop-thief
invariant-loop-thief g l = All (λ t. t ≡ l.tiles) l.queues.items × (length l.queues.items ≡ l.count)

abbrev pub invariant-loop-step : goal.invariant-loop-step
invariant-loop-step g l = All (λ t. t ≡ l.tiles) l.queues.items × (length l.queues.items ≡ l.count)
