use Rattle.std.proofs.Common.{rules}
use Rattle.gfxspec.proofs.to_write.ToWrite.new.Goals as goal

pub returns-clause-writer : goal.returns-clause-writer
returns-clause-writer g c = search rules

pub returns-clause-failures : goal.returns-clause-failures
returns-clause-failures g c = search rules
