use Rattle.meaning.proofs.Sessions.{settings_agree}
use Rattle.meaning.proofs.pending_list_has_the_settings.Goals as goal

pub returns : goal.returns
returns c = settings_agree
