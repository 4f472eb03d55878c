use Rattle.sessions.proofs.Ran.{anyway, settle_is, settle_size, still_inside}
use Rattle.sessions.proofs.Beside.{traced_settle}
use Rattle.sessions.proofs.traced.TracedContext.settle.Goals as goal

pub invariant_of-self : goal.invariant_of-self
invariant_of-self g c =
    let old = c.args.self.now in
    let new = c.settle_alone.new.self in
    record { inside = still_inside old.x old.y old.context new (settle_size old.context new c.settle_alone.result c.settle_alone.ensures) old.inside }

pub returns-clause-ran : goal.returns-clause-ran
returns-clause-ran g c =
    settle_is c.args.self.now.context c.settle_alone.new.self c.settle_alone.result c.settle_alone.ensures.ok c.settle_alone.ensures.memory

pub returns-clause-traced : goal.returns-clause-traced
returns-clause-traced g c =
    let old = c.args.self.now in
    anyway c.settle_alone.result (λ steps x y stands t. (t.0, t.1, traced_settle old.context.surface.size steps x y old.trace t.2))
