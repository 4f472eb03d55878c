use Rattle.std.proofs.Common.{[], ◌∷◌, true}
use Rattle.gfxspec.specs.Session.{Flushes}
use Rattle.sessions.proofs.Ran.{enqueues_size, still_inside}
use Rattle.sessions.proofs.Beside.{on_beside}
use Rattle.sessions.proofs.traced.TracedContext.wait.Goals as goal

pub invariant_of-self : goal.invariant_of-self
invariant_of-self g c =
    let old = c.args.self.now in
    let ran = c.wait_traced in
    record { inside = still_inside old.x old.y old.context ran.new.self (enqueues_size _ [] true old.context ran.new.self ran.result ran.ensures.enqueues) old.inside }

pub returns-clause-traced : goal.returns-clause-traced
returns-clause-traced g c =
    let old = c.args.self.now in
    let ran = c.wait_traced in
    on_beside old.context (Flushes ∷ []) old.x old.y old.trace ran.new.trace ran.result ran.ensures.traced
