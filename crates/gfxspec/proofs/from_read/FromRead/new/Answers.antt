use Rattle.std.proofs.Common.{rules}
use Rattle.gfxspec.proofs.from_read.FromRead.new.Goals as goal

pub returns-clause-reader : goal.returns-clause-reader
returns-clause-reader g c = search rules

pub returns-clause-failures : goal.returns-clause-failures
returns-clause-failures g c = search rules
