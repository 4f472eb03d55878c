use Rattle.meaning.proofs.Contexts.{shows}
use Rattle.meaning.proofs.a_context_shows_its_session.Goals as goal

pub returns : goal.returns
returns c = shows
