use Rattle.sessions.proofs.Ran.{traces_stay}
use Rattle.sessions.proofs.play.settle_unless_here.Goals as goal

pub returns-then-is_here-clause-traced : goal.returns-then-is_here-clause-traced
returns-then-is_here-clause-traced g c = traces_stay g.C.RecordsCalls.traces (g.C.RecordsCalls.held c.args.context.now) c.args.context.now
