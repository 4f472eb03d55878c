use Rattle.meaning.proofs.Performed.{performed_alike}
use Rattle.meaning.proofs.Performing.{settings_left, open_left, last_left}
use Rattle.meaning.proofs.what_is_performed_has_the_state_of_all.Goals as goal

pub returns-clause-settings : goal.returns-clause-settings
returns-clause-settings c results list = (performed_alike results list).settings

pub returns-clause-issues : goal.returns-clause-issues
returns-clause-issues c results list = (performed_alike results list).issues_are

pub returns-clause-open : goal.returns-clause-open
returns-clause-open c results list = (performed_alike results list).opened

pub returns-clause-settings_now : goal.returns-clause-settings_now
returns-clause-settings_now c = settings_left

pub returns-clause-open_now : goal.returns-clause-open_now
returns-clause-open_now c = open_left

pub returns-clause-last : goal.returns-clause-last
returns-clause-last c = last_left
