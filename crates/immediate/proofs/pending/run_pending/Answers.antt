use Rattle.std.proofs.Common.{subst, List}
use Rattle.gfxspec.specs.Commands.{Command}
use Rattle.immediate.specs.Outputs.{HasRun}
use Rattle.immediate.proofs.Runs.{pending_ran}
use Rattle.immediate.proofs.pending.run_pending.Goals as goal

pub returns-clause-ok : goal.returns-clause-ok
returns-clause-ok g c =
    pending_ran c.args.output.now c.run.new.self c.args.pending.now c.in_ok-next.next
    (subst (λ (list : List Command). HasRun list c.args.output.now c.run.new.self) c.recorded.ensures c.in_ok-run.ensures.ok) c.in_ok-next.ensures.next
