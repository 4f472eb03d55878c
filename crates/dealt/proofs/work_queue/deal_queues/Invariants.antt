use Rattle.std.proofs.Common.{◌≡◌, ◌≤◌, All, length}
use Rattle.dealt.proofs.work_queue.deal_queues.Given as goal

abbrev pub invariant-loop-worker : goal.invariant-loop-worker
invariant-loop-worker g l = All (λ t. t ≡ l.tiles) l.queues.items × (length l.queues.items ≤ l.worker)
