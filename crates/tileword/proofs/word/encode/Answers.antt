use Rattle.std.proofs.Common.{rules}
use Rattle.tileword.proofs.word.encode.Goals as goal

pub returns-in-ClearC-clause-value : goal.returns-in-ClearC-clause-value
returns-in-ClearC-clause-value c = search rules

pub returns-in-ClearC-clause-back : goal.returns-in-ClearC-clause-back
returns-in-ClearC-clause-back c = search rules

pub returns-in-ClearDs-clause-value : goal.returns-in-ClearDs-clause-value
returns-in-ClearDs-clause-value c = search rules

pub returns-in-ClearDs-clause-back : goal.returns-in-ClearDs-clause-back
returns-in-ClearDs-clause-back c = search rules
