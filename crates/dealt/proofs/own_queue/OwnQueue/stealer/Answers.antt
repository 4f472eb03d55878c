use Rattle.dealt.proofs.Dealing.{forks}
use Rattle.dealt.proofs.own_queue.OwnQueue.stealer.Goals as goal

pub another-pass-requires : goal.another-pass-requires
another-pass-requires g c = forks _ c.self.inside.tiles _ c.self.invariant.0
