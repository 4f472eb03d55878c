use Rattle.std.proofs.Common.{rules}
use Rattle.logicop.proofs.color_write.ColorWrite.onto.Goals as goal

pub returns : goal.returns
returns c = search rules
