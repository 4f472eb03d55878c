use Rattle.meaning.proofs.Standing.{queries_agree}
use Rattle.meaning.proofs.pending_list_has_the_open_queries.Goals as goal

pub returns : goal.returns
returns c = queries_agree
