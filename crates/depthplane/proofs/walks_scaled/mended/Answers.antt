use Rattle.std.proofs.Common.{rules}
use Rattle.depthplane.proofs.walks_scaled.mended.Goals as goal

pub from-requires : goal.from-requires
from-requires c = search rules

pub from-requires-2 : goal.from-requires-2
from-requires-2 c = search rules

pub overflow_mul-from : goal.overflow_mul-from
overflow_mul-from c = search rules

pub returns-then-height-from : goal.returns-then-height-from
returns-then-height-from c = search rules

pub returns-else-height-from : goal.returns-else-height-from
returns-else-height-from c = search rules
