use Rattle.immediate.proofs.Waiting.{list_waits}
use Rattle.immediate.proofs.executions.wait.Goals as goal

pub returns-clause-waits : goal.returns-clause-waits
returns-clause-waits g c = λ _ o.
    list_waits o c.args.waiting.now c.args.pending.now c.in-Some.ensures.unissued.0 c.args.list.now c.args.restore c.in-Some.more c.join.new.self c.in-Ok.next
    c.in-Some.ensures.accepted c.in-Some.ensures.unissued.1 (c.join.ensures.joined c.if-not-join.false) (c.in-Some.ensures.means o) c.in-Ok.ensures.next
