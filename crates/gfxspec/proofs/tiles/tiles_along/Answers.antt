use Rattle.std.proofs.Common.{rules}
use Rattle.gfxspec.proofs.tiles.tiles_along.Goals as goal

pub overflow_sub-result : goal.overflow_sub-result
overflow_sub-result c = search rules

pub overflow_add-result : goal.overflow_add-result
overflow_add-result c = search rules

pub returns-clause-value : goal.returns-clause-value
returns-clause-value c = search rules

pub returns-clause-few : goal.returns-clause-few
returns-clause-few c = search rules
