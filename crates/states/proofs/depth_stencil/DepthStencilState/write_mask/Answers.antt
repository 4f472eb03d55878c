use Rattle.std.proofs.Common.{rules}
use Rattle.states.proofs.depth_stencil.DepthStencilState.write_mask.Goals as goal

pub returns : goal.returns
returns c = search rules
