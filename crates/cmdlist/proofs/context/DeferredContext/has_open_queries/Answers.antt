use Rattle.std.proofs.Common.{rules}
use Rattle.cmdlist.proofs.context.DeferredContext.has_open_queries.Goals as goal

pub returns : goal.returns
returns g c = search rules
