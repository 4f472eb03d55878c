use Rattle.std.proofs.Common.{rules}
use Rattle.binner.proofs.compiled.Compiled.words.Goals as goal

pub returns : goal.returns
returns g c = search rules
