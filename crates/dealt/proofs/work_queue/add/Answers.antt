use Rattle.dealt.proofs.Dealing.{added}
use Rattle.dealt.proofs.work_queue.add.Goals as goal

pub returns : goal.returns
returns g c = added _ _ c.args.queue c.args.tiles _ c.push.ensures.items c.requires.0 c.requires.1
