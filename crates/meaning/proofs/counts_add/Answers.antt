use Rattle.meaning.proofs.Adding.{issue_count-append}
use Rattle.meaning.proofs.counts_add.Goals as goal

pub returns : goal.returns
returns c = issue_count-append
