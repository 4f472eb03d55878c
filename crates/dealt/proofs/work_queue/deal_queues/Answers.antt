use Rattle.std.proofs.Common.{rules}
use Rattle.dealt.proofs.work_queue.deal_queues.Goals as goal

pub invariant_of-queue : goal.invariant_of-queue
invariant_of-queue g c = search rules
