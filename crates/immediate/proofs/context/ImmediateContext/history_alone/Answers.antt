use Rattle.immediate.proofs.Tracing.{stays_history}
use Rattle.immediate.proofs.context.ImmediateContext.history_alone.Goals as goal

pub returns-clause-value : goal.returns-clause-value
returns-clause-value g c =
    let inside = c.in_ok-examine_traced.ensures.inside in
    stays_history c.args.x c.args.y c.args.self.now c.settle_alone.new.self c.in_ok-settle_alone.ensures.ok.0 c.in_ok-settle_alone.ensures.ok.1 inside.0 inside.1 _ c.in_ok-stored_history.ensures
