use Rattle.meaning.proofs.Predicates.{predicate_apart}
use Rattle.meaning.proofs.Performing.{pending_left}
use Rattle.meaning.proofs.predicates_are_apart_from_issues.Goals as goal

pub returns-clause-apart : goal.returns-clause-apart
returns-clause-apart c = predicate_apart

pub returns-clause-pending : goal.returns-clause-pending
returns-clause-pending c = pending_left
