use Rattle.meaning.proofs.Contexts.{results_stored}
use Rattle.meaning.proofs.counts_stored_in_order_are_the_results.Goals as goal

pub returns : goal.returns
returns c = results_stored
