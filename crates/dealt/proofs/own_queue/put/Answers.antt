use Rattle.dealt.proofs.Dealing.{dealing}
use Rattle.dealt.proofs.own_queue.put.Goals as goal

pub push_as-requires-clause-pushes : goal.push_as-requires-clause-pushes
push_as-requires-clause-pushes g c = dealing _ _ c.args.task c.requires.0 c.requires.1
