use Rattle.std.proofs.Common.{sym, subst}
use Rattle.port.proofs.Settling.{taken_so}
use Rattle.recorders.specs.Ports.{in_order}
use Rattle.recorders.specs.Apart.{IsListed}
use Rattle.recorders.specs.Ending.{AreRecorded}
use Rattle.recorders.proofs.EndLemmas.{all_recorded}
use Rattle.recorders.proofs.ports.settle.Goals as goal

pub returns-clause-agrees : goal.returns-clause-agrees
returns-clause-agrees g c ls results =
    let taken = c.drain_and_settle.ensures.taken in
    taken_so (IsListed ls) c.args.ports.queue (in_order c.args.returned.passes) c.args.returned.drain.taken taken.0 results.back taken.1 results.sent

pub returns-clause-refused : goal.returns-clause-refused
returns-clause-refused g c ls missing results lacks =
    subst (λ o. AreRecorded ls o missing) (sym c.first_refused.ensures) (all_recorded ls c.args.returned.ends results.ends missing lacks)
