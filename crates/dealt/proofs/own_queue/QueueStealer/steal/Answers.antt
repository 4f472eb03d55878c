use Rattle.dealt.proofs.Dealing.{takes}
use Rattle.dealt.proofs.own_queue.QueueStealer.steal.Goals as goal

pub steal_as-requires-clause-takes : goal.steal_as-requires-clause-takes
steal_as-requires-clause-takes g c = takes _ c.self.inside.tiles _ c.self.invariant.1
