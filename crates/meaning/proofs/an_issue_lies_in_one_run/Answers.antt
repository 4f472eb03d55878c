use Rattle.meaning.proofs.Standing.{pending_follows, execution_follows}
use Rattle.meaning.proofs.an_issue_lies_in_one_run.Goals as goal

pub returns-clause-pending : goal.returns-clause-pending
returns-clause-pending c = pending_follows

pub returns-clause-executed : goal.returns-clause-executed
returns-clause-executed c = execution_follows
