use Rattle.gfxspec.specs.Items.{count_at}
use Rattle.meaning.proofs.Tiles.{over_tiles}
use Rattle.meaning.proofs.tiles_sum.Goals as goal

pub returns : goal.returns
returns c issue items s opening = over_tiles s (λ x y. count_at issue items x y (opening x y))
