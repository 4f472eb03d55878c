use Rattle.dealt.proofs.Dealing.{pops}
use Rattle.dealt.proofs.own_queue.OwnQueue.pop.Goals as goal

pub pop_as-requires-clause-lifo : goal.pop_as-requires-clause-lifo
pop_as-requires-clause-lifo g c = λ _. pops _ c.self.inside.tiles _ c.self.invariant.0
