use Rattle.meaning.proofs.Flushing.{performed-flush}
use Rattle.meaning.proofs.flush_changes_nothing.Goals as goal

pub returns-clause-items : goal.returns-clause-items
returns-clause-items c = performed-flush
