use Rattle.std.proofs.Common.{rules, arith}
use Rattle.assemble.proofs.places.vertex_of.Goals as goal
use Rattle.std.proofs.lemmas.Grind.{common_steps}

pub from-requires : goal.from-requires
from-requires c = search rules

pub from-requires-2 : goal.from-requires-2
from-requires-2 c = search rules

pub overflow_add-result : goal.overflow_add-result
overflow_add-result c = search rules

pub overflow_cast-result : goal.overflow_cast-result
overflow_cast-result c = search rules

pub offset_bounds-vertices-from : goal.offset_bounds-vertices-from
offset_bounds-vertices-from c = search rules

pub bounds-vertices-from : goal.bounds-vertices-from
bounds-vertices-from c = search rules

pub returns : goal.returns
returns c = grind (arith, common_steps)
