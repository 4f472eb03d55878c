use Rattle.std.proofs.Common.{ap}
use Rattle.tileprog.specs.Painting.{flipped}
use Rattle.tileprog.proofs.words.clear_depths.Goals as goal

pub returns-clause-pixels : goal.returns-clause-pixels
returns-clause-pixels g c = λ flip u v is. ap (flipped flip) (c.clear_depth_stencil.ensures.pixels u v is)
