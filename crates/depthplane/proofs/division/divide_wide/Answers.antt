use Rattle.std.proofs.Common.{rules}
use Rattle.depthplane.proofs.division.divide_wide.Goals as goal

pub try_from-requires : goal.try_from-requires
try_from-requires c = search rules

pub divide-requires : goal.divide-requires
divide-requires c = search rules

pub from-wide-requires : goal.from-wide-requires
from-wide-requires c = search rules

pub div_euclid-requires-clause-nonzero : goal.div_euclid-requires-clause-nonzero
div_euclid-requires-clause-nonzero c = search rules

pub div_euclid-requires-clause-no_overflow : goal.div_euclid-requires-clause-no_overflow
div_euclid-requires-clause-no_overflow c = search rules

pub rem_euclid-requires-clause-nonzero : goal.rem_euclid-requires-clause-nonzero
rem_euclid-requires-clause-nonzero c = search rules

pub rem_euclid-requires-clause-no_overflow : goal.rem_euclid-requires-clause-no_overflow
rem_euclid-requires-clause-no_overflow c = search rules

pub overflow_cast-result : goal.overflow_cast-result
overflow_cast-result c = search rules

pub rem_euclid-requires-in-Err-clause-nonzero : goal.rem_euclid-requires-in-Err-clause-nonzero
rem_euclid-requires-in-Err-clause-nonzero c = search rules

pub rem_euclid-requires-in-Err-clause-no_overflow :
    goal.rem_euclid-requires-in-Err-clause-no_overflow
rem_euclid-requires-in-Err-clause-no_overflow c = search rules

pub overflow_cast-result-in-Err : goal.overflow_cast-result-in-Err
overflow_cast-result-in-Err c = search rules

pub returns-in-Ok-clause-exact : goal.returns-in-Ok-clause-exact
returns-in-Ok-clause-exact c = search rules

pub returns-in-Ok-clause-rest : goal.returns-in-Ok-clause-rest
returns-in-Ok-clause-rest c = search rules

pub returns-in-Err-clause-exact : goal.returns-in-Err-clause-exact
returns-in-Err-clause-exact c = search rules

pub returns-in-Err-clause-rest : goal.returns-in-Err-clause-rest
returns-in-Err-clause-rest c = search rules
