use Rattle.std.proofs.Common.{rules}
use Rattle.cmdlist.proofs.drawing.is_index_used_well.Goals as goal

pub from-requires : goal.from-requires
from-requires c = search rules

pub from-requires-2 : goal.from-requires-2
from-requires-2 c = search rules

pub overflow_add-place : goal.overflow_add-place
overflow_add-place c = search rules

pub overflow_cast-result : goal.overflow_cast-result
overflow_cast-result c = search rules

pub returns-then-is_cut : goal.returns-then-is_cut
returns-then-is_cut c = search rules

pub returns-then-place-ge0 : goal.returns-then-place-ge0
returns-then-place-ge0 c = search rules

pub returns-else-place-ge0 : goal.returns-else-place-ge0
returns-else-place-ge0 c = search rules
