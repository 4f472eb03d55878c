use Rattle.std.proofs.Common.{true, []}
use Rattle.immediate.proofs.Tracing.{anyway, enqueues_both, nothing_accepted}
use Rattle.immediate.proofs.context.ImmediateContext.wait_traced.Goals as goal

pub returns : goal.returns
returns g c = record {
  traced = λ steps stands traced. anyway c.enqueue_pending_alone.result (c.in_ok-pass_pending.ensures.traced steps stands traced);
  enqueues = enqueues_both [] true c.args.self.now c.pass_pending.new.self c.enqueue_pending_alone.new.self c.enqueue_pending_alone.result nothing_accepted c.in_ok-pass_pending.ensures.answer c.in_ok-pass_pending.ensures.passed c.enqueue_pending_alone.ensures;
}
