use Rattle.std.proofs.Common.{◌+◌, ◌*◌, length}
use Rattle.workers.proofs.stealing.+drain_queues+fn-drain_queues-join+arg2+fn-drain_queues-join+arg3.Given as goal

abbrev pub decreases-drain_queues : goal.decreases-drain_queues
decreases-drain_queues g l = 2 * length l.queues.now

abbrev pub decreases-join+arg2 : goal.decreases-join+arg2
decreases-join+arg2 g l = 2 * length l.far_queues.now + 1

abbrev pub decreases-join+arg3 : goal.decreases-join+arg3
decreases-join+arg3 g l = 2 * length l.near_queues.now + 1
