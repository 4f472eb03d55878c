use Rattle.std.proofs.Common.{◌+◌, ◌-◌, ◌*◌, ◌<◌, ◌≤◌}
use Rattle.workers.proofs.serving.+threads.Given as goal

-- a thread starts those of later workers alone
abbrev pub decreases-start : goal.decreases-start
decreases-start g l = 4 * (16 - l.setup.worker) + 3

abbrev pub decreases-start-spawn : goal.decreases-start-spawn
decreases-start-spawn g l = 4 * (16 - l.setup.worker) + 2

abbrev pub decreases-serve : goal.decreases-serve
decreases-serve g l = 4 * (16 - l.setup.worker) + 1

abbrev pub decreases-start_behind : goal.decreases-start_behind
decreases-start_behind g l = 4 * (16 - l.setup.now.worker)

abbrev pub invariant-serve-loop : goal.invariant-serve-loop
invariant-serve-loop g l = l.setup.worker < l.next

abbrev pub invariant-start_behind-loop-worker : goal.invariant-start_behind-loop-worker
invariant-start_behind-loop-worker g l = l.fn.next ≤ l.worker
