use Rattle.immediate.proofs.Tracing.{anyway}
use Rattle.immediate.proofs.context.ImmediateContext.flush_traced.Goals as goal

pub returns-clause-traced : goal.returns-clause-traced
returns-clause-traced g c steps stands traced = anyway c.flush_alone.result (c.in_ok-go_past.ensures.traced steps stands traced)
