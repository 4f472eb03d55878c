use Rattle.command.specs.Seen.{command_value}
use Rattle.sessions.proofs.Ran.{anyway, record_size, still_inside}
use Rattle.pixelhistory.proofs.Standing.{traced_record}
use Rattle.sessions.proofs.tracing.TracedContextRecordsCalls.record_command.Goals as goal

pub invariant_of-self : goal.invariant_of-self
invariant_of-self g c =
    let old = c.args.self.now in
    record { inside = still_inside old.x old.y old.context c.record.new.self (record_size (command_value c.args.command.now) old.context c.record.new.self c.record.result c.record.ensures) old.inside }

pub returns-clause-traced : goal.returns-clause-traced
returns-clause-traced g c =
    let old = c.args.self.now in
    anyway c.record.result (λ steps x y stands t. (t.0, t.1, traced_record old.context.surface.size steps (command_value c.args.command.now) x y old.trace t.2))
