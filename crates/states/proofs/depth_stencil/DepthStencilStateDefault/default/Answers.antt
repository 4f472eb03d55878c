use Rattle.std.proofs.Common.{rules}
use Rattle.states.proofs.depth_stencil.DepthStencilStateDefault.default.Goals as goal

pub returns : goal.returns
returns c = search rules
