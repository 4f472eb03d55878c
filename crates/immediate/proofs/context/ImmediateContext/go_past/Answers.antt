use Rattle.std.proofs.Common.{◌≡◌, ◌∙◌, ap, sym, length}
use Rattle.std.proofs.lemmas.List.{length-map}
use Rattle.command.specs.Seen.{command_value}
use Rattle.immediate.specs.Held.{Held, context_of}
use Rattle.pixelhistory.proofs.Standing.{traced_flush}
use Rattle.immediate.proofs.context.ImmediateContext.go_past.Goals as goal

pub returns-clause-traced : goal.returns-clause-traced
returns-clause-traced g c steps stands traced =
    let a = c.args.self.now in
    let went = c.in_ok-go_on.ensures in
    let many : length c.commands.result.now ≡ length a.pending = sym (length-map c.commands.result.now command_value) ∙ ap length (c.commands.ensures.commands ∙ ap (λ (h : Held). h.pending) c.self.view_is) in
    traced_flush a.surface.size steps (context_of a) c.args.x c.args.y c.args.trace.now c.trace_pending.new.trace stands c.requires.x c.requires.y traced c.in_ok-trace_pending.ensures
    c.go_on.new.self (length c.commands.result.now) many went.trace went.origins went.step
