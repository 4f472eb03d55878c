use Rattle.std.proofs.Common.{rules}
use Rattle.gfxspec.proofs.state.Cull.from_number.Goals as goal

pub returns-in-1-clause-some : goal.returns-in-1-clause-some
returns-in-1-clause-some c = search rules

pub returns-in-1-clause-none : goal.returns-in-1-clause-none
returns-in-1-clause-none c = search rules

pub returns-in-2-clause-some : goal.returns-in-2-clause-some
returns-in-2-clause-some c = search rules

pub returns-in-2-clause-none : goal.returns-in-2-clause-none
returns-in-2-clause-none c = search rules

pub returns-in-3-clause-some : goal.returns-in-3-clause-some
returns-in-3-clause-some c = search rules

pub returns-in-3-clause-none : goal.returns-in-3-clause-none
returns-in-3-clause-none c = search rules

pub returns-in_default-clause-some : goal.returns-in_default-clause-some
returns-in_default-clause-some c = search rules

pub returns-in_default-clause-none : goal.returns-in_default-clause-none
returns-in_default-clause-none c = search rules
