use Rattle.meaning.proofs.Folding.{after_items-append}
use Rattle.meaning.proofs.items_fold_in_parts.Goals as goal

pub returns : goal.returns
returns c = after_items-append
