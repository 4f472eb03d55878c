use Rattle.std.proofs.Common.{subst}
use Rattle.immediate.specs.Held.{Held, Executed, held_behind}
use Rattle.immediate.proofs.context.ImmediateContext.wait.Goals as goal

pub returns-clause-waits : goal.returns-clause-waits
returns-clause-waits g c waits =
    let output = c.self.inside.output in
    subst (λ (h : Held). Executed c.args.list.now c.args.restore h (held_behind output c.wait.new.waiting c.wait.new.pending)) c.self.view_is (c.wait.ensures.waits waits output)
