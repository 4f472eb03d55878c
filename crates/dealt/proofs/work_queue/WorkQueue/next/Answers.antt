use Rattle.std.proofs.Common.{rules}
use Rattle.dealt.proofs.work_queue.WorkQueue.next.Goals as goal

pub returns-in-Some-pop-clause-in_range : goal.returns-in-Some-pop-clause-in_range
returns-in-Some-pop-clause-in_range g c = search rules
