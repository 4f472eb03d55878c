use Rattle.std.proofs.Common.{◌≡◌, ◌-◌, ◌<◌, Some}
use Rattle.crossbeam_deque.specs.Handles.{worker_view, worker_flavor}
use Rattle.dealt.proofs.own_queue.OwnQueue.deal.Given as goal

abbrev pub invariant-loop-number : goal.invariant-loop-number
invariant-loop-number g l = (worker_view l.owner ≡ Some l.tiles) × (worker_flavor l.owner ≡ 1) × (l.number < l.tiles)

abbrev pub decreases-loop-number : goal.decreases-loop-number
decreases-loop-number g l = l.tiles - l.number
