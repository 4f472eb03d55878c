use Rattle.std.proofs.Common.{rules}
use Rattle.gfxspec.proofs.tiles.tile_rect.Goals as goal

pub tiles_along-along-requires : goal.tiles_along-along-requires
tiles_along-along-requires c = search rules

pub nonzero_rem-left : goal.nonzero_rem-left
nonzero_rem-left c = search rules

pub overflow_mul-left : goal.overflow_mul-left
overflow_mul-left c = search rules

pub nonzero_div-top : goal.nonzero_div-top
nonzero_div-top c = search rules

pub overflow_mul-top : goal.overflow_mul-top
overflow_mul-top c = search rules

pub overflow_add-left : goal.overflow_add-left
overflow_add-left c = search rules

pub min-requires : goal.min-requires
min-requires c = search rules

pub overflow_add-top : goal.overflow_add-top
overflow_add-top c = search rules

pub min-requires-2 : goal.min-requires-2
min-requires-2 c = search rules

pub returns-clause-value : goal.returns-clause-value
returns-clause-value c = search rules

pub returns-clause-in_tile : goal.returns-clause-in_tile
returns-clause-in_tile c = search rules
