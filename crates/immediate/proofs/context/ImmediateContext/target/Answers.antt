use Rattle.std.proofs.Common.{ap, sym, ◌∙◌}
use Rattle.immediate.specs.Held.{Held}
use Rattle.immediate.proofs.Settled.{settled}
use Rattle.immediate.proofs.context.ImmediateContext.target.Goals as goal

pub returns-clause-settled : goal.returns-clause-settled
returns-clause-settled g c = λ x y none. settled c.args.self.now c.target.result.now (sym (c.target.ensures.target ∙ ap (λ (h : Held). h.surface) c.self.view_is)) x y none
