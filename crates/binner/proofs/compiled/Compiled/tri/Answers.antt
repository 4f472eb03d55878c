use Rattle.std.proofs.Common.{rules}
use Rattle.binner.proofs.compiled.Compiled.tri.Goals as goal

pub index-requires : goal.index-requires
index-requires g c = search rules
