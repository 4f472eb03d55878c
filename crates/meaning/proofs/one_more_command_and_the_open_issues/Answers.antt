use Rattle.meaning.proofs.Issues.{open_after-push}
use Rattle.meaning.proofs.one_more_command_and_the_open_issues.Goals as goal

pub returns : goal.returns
returns c = open_after-push
