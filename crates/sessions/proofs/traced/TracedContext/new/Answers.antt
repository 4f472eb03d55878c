use Rattle.std.proofs.Common.{refl}
use Rattle.sessions.proofs.traced.TracedContext.new.Goals as goal

pub returns-clause-traced : goal.returns-clause-traced
returns-clause-traced g c size = (refl, refl, c.new.ensures size c.args.x c.args.y)
