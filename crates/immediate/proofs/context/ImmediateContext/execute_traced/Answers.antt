use Rattle.immediate.proofs.Tracing.{anyway, enqueues_both, traced_behind}
use Rattle.immediate.proofs.context.ImmediateContext.execute_traced.Goals as goal

pub returns : goal.returns
returns g c = record {
  traced = λ steps stands traced.
      let a = c.args.self.now in
      let went = c.in_ok-go_on.ensures in
      anyway c.enqueue_execution_alone.result
      (traced_behind a c.pass_pending.new.self steps c.args.list.now c.args.restore c.args.x c.args.y c.pass_pending.new.trace c.trace_list.new.trace c.go_on.new.self c.steps_unkept.result
      c.in_ok-pass_pending.ensures.passed stands c.in_ok-pass_pending.ensures.answer c.commands-commands.ensures.accepted c.requires.x c.requires.y (c.in_ok-pass_pending.ensures.traced steps stands traced) c.in_ok-trace_list.ensures went.trace went.origins went.step c.steps_unkept.ensures);
  enqueues = enqueues_both c.args.list.now c.args.restore c.args.self.now c.pass_pending.new.self c.enqueue_execution_alone.new.self c.enqueue_execution_alone.result c.commands-commands.ensures.accepted c.in_ok-pass_pending.ensures.answer c.in_ok-pass_pending.ensures.passed c.enqueue_execution_alone.ensures;
}
