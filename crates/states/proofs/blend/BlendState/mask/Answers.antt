use Rattle.std.proofs.Common.{rules}
use Rattle.states.proofs.blend.BlendState.mask.Goals as goal

pub returns : goal.returns
returns c = search rules
