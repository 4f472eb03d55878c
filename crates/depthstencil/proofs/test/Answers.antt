use Rattle.std.proofs.Common.{rules}
use Rattle.depthstencil.proofs.test.Goals as goal

pub returns-then-stencil : goal.returns-then-stencil
returns-then-stencil c = search rules
