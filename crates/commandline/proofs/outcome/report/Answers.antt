use Rattle.std.proofs.Common.{rules}
use Rattle.commandline.proofs.outcome.report.Goals as goal

pub returns-in-Ok-Done : goal.returns-in-Ok-Done
returns-in-Ok-Done c = search rules

pub returns-in-Ok-Refused : goal.returns-in-Ok-Refused
returns-in-Ok-Refused c = search rules

pub returns-in-Err-Read : goal.returns-in-Err-Read
returns-in-Err-Read c = search rules

pub returns-in-Err-Image : goal.returns-in-Err-Image
returns-in-Err-Image c = search rules

pub returns-in-Err-Lines : goal.returns-in-Err-Lines
returns-in-Err-Lines c = search rules
