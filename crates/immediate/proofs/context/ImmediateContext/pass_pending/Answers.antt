use Rattle.immediate.proofs.Tracing.{ran_passed}
use Rattle.immediate.proofs.context.ImmediateContext.pass_pending.Goals as goal

pub returns-then-begin_queries-clause-passed : goal.returns-then-begin_queries-clause-passed
returns-then-begin_queries-clause-passed g c = ran_passed c.args.self.now c.flush_traced.new.self c.flush_traced.result c.flush_traced.ensures.runs.ok
