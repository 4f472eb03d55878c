use Rattle.std.proofs.Common.{rules}
use Rattle.gfxspec.proofs.state.Compare.from_number.Goals as goal

pub returns-in-1-clause-some : goal.returns-in-1-clause-some
returns-in-1-clause-some c = search rules

pub returns-in-1-clause-none : goal.returns-in-1-clause-none
returns-in-1-clause-none c = search rules

pub returns-in-2-clause-some : goal.returns-in-2-clause-some
returns-in-2-clause-some c = search rules

pub returns-in-2-clause-none : goal.returns-in-2-clause-none
returns-in-2-clause-none c = search rules

pub returns-in-3-clause-some : goal.returns-in-3-clause-some
returns-in-3-clause-some c = search rules

pub returns-in-3-clause-none : goal.returns-in-3-clause-none
returns-in-3-clause-none c = search rules

pub returns-in-4-clause-some : goal.returns-in-4-clause-some
returns-in-4-clause-some c = search rules

pub returns-in-4-clause-none : goal.returns-in-4-clause-none
returns-in-4-clause-none c = search rules

pub returns-in-5-clause-some : goal.returns-in-5-clause-some
returns-in-5-clause-some c = search rules

pub returns-in-5-clause-none : goal.returns-in-5-clause-none
returns-in-5-clause-none c = search rules

pub returns-in-6-clause-some : goal.returns-in-6-clause-some
returns-in-6-clause-some c = search rules

pub returns-in-6-clause-none : goal.returns-in-6-clause-none
returns-in-6-clause-none c = search rules

pub returns-in-7-clause-some : goal.returns-in-7-clause-some
returns-in-7-clause-some c = search rules

pub returns-in-7-clause-none : goal.returns-in-7-clause-none
returns-in-7-clause-none c = search rules

pub returns-in-8-clause-some : goal.returns-in-8-clause-some
returns-in-8-clause-some c = search rules

pub returns-in-8-clause-none : goal.returns-in-8-clause-none
returns-in-8-clause-none c = search rules

pub returns-in_default-clause-some : goal.returns-in_default-clause-some
returns-in_default-clause-some c = search rules

pub returns-in_default-clause-none : goal.returns-in_default-clause-none
returns-in_default-clause-none c = search rules
