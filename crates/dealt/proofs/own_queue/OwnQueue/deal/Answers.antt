use Rattle.dealt.proofs.Dealing.{begins}
use Rattle.dealt.proofs.own_queue.OwnQueue.deal.Goals as goal

pub lifo_as-requires : goal.lifo_as-requires
lifo_as-requires g c = begins
