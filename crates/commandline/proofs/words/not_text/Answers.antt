use Rattle.std.proofs.Common.{rules}
use Rattle.commandline.proofs.words.not_text.Goals as goal

pub returns-in_err-command : goal.returns-in_err-command
returns-in_err-command c = search rules

pub returns : goal.returns
returns c = search rules
