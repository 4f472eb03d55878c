use Rattle.sessions.proofs.Beside.{ended_beside}
use Rattle.sessions.proofs.traced.TracedContext.end.Goals as goal

pub returns-clause-traced : goal.returns-clause-traced
returns-clause-traced g c = ended_beside c.args.self.now.context c.args.self.now.x c.args.self.now.y c.args.self.now.trace c.end_trace.new.trace c.end_trace.result c.end_trace.ensures.whole
