use Rattle.std.proofs.Common.{rules}
use Rattle.gfxspec.proofs.tiles.tile_count.Goals as goal

pub tiles_along-requires : goal.tiles_along-requires
tiles_along-requires c = search rules

pub tiles_along-requires-2 : goal.tiles_along-requires-2
tiles_along-requires-2 c = search rules

pub overflow_mul-result : goal.overflow_mul-result
overflow_mul-result c = search rules

pub returns-clause-value : goal.returns-clause-value
returns-clause-value c = search rules

pub returns-clause-few : goal.returns-clause-few
returns-clause-few c = search rules
