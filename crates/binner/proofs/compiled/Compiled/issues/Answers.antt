use Rattle.std.proofs.Common.{rules}
use Rattle.binner.proofs.compiled.Compiled.issues.Goals as goal

pub returns-clause-value : goal.returns-clause-value
returns-clause-value g c = search rules
