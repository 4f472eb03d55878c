use Rattle.gfxspec.proofs.TileLaws.{each_pixel_once, few_tiles}
use Rattle.gfxspec.proofs.tiles.tiles_have_each_pixel_once.Goals as goal

pub returns : goal.returns
returns c = record { once = each_pixel_once; few = few_tiles }
