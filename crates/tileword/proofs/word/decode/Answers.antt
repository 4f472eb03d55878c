use Rattle.std.proofs.Common.{rules}
use Rattle.tileword.proofs.word.decode.Goals as goal

pub returns-in-0-clause-value : goal.returns-in-0-clause-value
returns-in-0-clause-value c = search rules

pub returns-in-0-clause-some : goal.returns-in-0-clause-some
returns-in-0-clause-some c = search rules

pub returns-in-0-clause-none : goal.returns-in-0-clause-none
returns-in-0-clause-none c = search rules

pub returns-in-2-clause-value : goal.returns-in-2-clause-value
returns-in-2-clause-value c = search rules

pub returns-in-2-clause-some : goal.returns-in-2-clause-some
returns-in-2-clause-some c = search rules

pub returns-in-2-clause-none : goal.returns-in-2-clause-none
returns-in-2-clause-none c = search rules

pub returns-in_default-2-clause-value : goal.returns-in_default-2-clause-value
returns-in_default-2-clause-value c = search rules

pub returns-in_default-2-clause-some : goal.returns-in_default-2-clause-some
returns-in_default-2-clause-some c = search rules

pub returns-in_default-2-clause-none : goal.returns-in_default-2-clause-none
returns-in_default-2-clause-none c = search rules

pub returns-in-1-clause-value : goal.returns-in-1-clause-value
returns-in-1-clause-value c = search rules

pub returns-in-1-clause-some : goal.returns-in-1-clause-some
returns-in-1-clause-some c = search rules

pub returns-in-1-clause-none : goal.returns-in-1-clause-none
returns-in-1-clause-none c = search rules
