use Rattle.std.proofs.Common.{[], ◌∷◌}
use Rattle.gfxspec.specs.Session.{Executes}
use Rattle.sessions.proofs.Ran.{enqueues_size, still_inside}
use Rattle.sessions.proofs.Beside.{on_beside}
use Rattle.sessions.proofs.traced.TracedContext.execute.Goals as goal

pub invariant_of-self : goal.invariant_of-self
invariant_of-self g c =
    let old = c.args.self.now in
    let ran = c.execute_traced in
    record { inside = still_inside old.x old.y old.context ran.new.self (enqueues_size _ c.args.list.now c.args.restore old.context ran.new.self ran.result ran.ensures.enqueues) old.inside }

pub returns-clause-traced : goal.returns-clause-traced
returns-clause-traced g c =
    let old = c.args.self.now in
    let ran = c.execute_traced in
    on_beside old.context (Executes c.args.list.now c.args.restore ∷ []) old.x old.y old.trace ran.new.trace ran.result ran.ensures.traced
