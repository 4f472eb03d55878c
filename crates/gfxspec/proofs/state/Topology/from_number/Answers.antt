use Rattle.std.proofs.Common.{rules}
use Rattle.gfxspec.proofs.state.Topology.from_number.Goals as goal

pub returns-in-4-clause-some : goal.returns-in-4-clause-some
returns-in-4-clause-some c = search rules

pub returns-in-4-clause-none : goal.returns-in-4-clause-none
returns-in-4-clause-none c = search rules

pub returns-in-5-clause-some : goal.returns-in-5-clause-some
returns-in-5-clause-some c = search rules

pub returns-in-5-clause-none : goal.returns-in-5-clause-none
returns-in-5-clause-none c = search rules

pub returns-in_default-clause-some : goal.returns-in_default-clause-some
returns-in_default-clause-some c = search rules

pub returns-in_default-clause-none : goal.returns-in_default-clause-none
returns-in_default-clause-none c = search rules
