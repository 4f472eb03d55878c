use Rattle.sessions.proofs.Steps.{quiet}
use Rattle.sessions.proofs.ending.asks.Goals as goal

pub returns-in_default : goal.returns-in_default
returns-in_default g c size earlier = quiet c.args.verb.now c.in_default.not-Query c.in_default.not-Pixel size earlier
