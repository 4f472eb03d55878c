use Rattle.immediate.specs.Held.{context_of}
use Rattle.pixelhistory.proofs.Standing.{traced_all}
use Rattle.immediate.proofs.context.ImmediateContext.end_trace.Goals as goal

pub returns-clause-whole : goal.returns-clause-whole
returns-clause-whole g c steps stands traced =
    traced_all c.args.self.now.surface.size steps (context_of c.args.self.now) c.args.x c.args.y c.args.trace.now c.trace_pending.new.trace stands c.requires.x c.requires.y traced c.in_ok-trace_pending.ensures
