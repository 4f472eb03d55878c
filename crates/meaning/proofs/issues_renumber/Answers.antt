use Rattle.meaning.proofs.Renumbering.{renumbers}
use Rattle.meaning.proofs.issues_renumber.Goals as goal

pub returns : goal.returns
returns c = renumbers
