use Rattle.std.proofs.Common.{rules}
use Rattle.cmdlist.proofs.context.DeferredContext.examine_but_length.Goals as goal

pub is_scissor_bad-requires : goal.is_scissor_bad-requires
is_scissor_bad-requires g c = search rules

pub is_open-requires : goal.is_open-requires
is_open-requires g c κs = search rules

pub has_all_issues-requires : goal.has_all_issues-requires
has_all_issues-requires g c κs = search rules

pub is_open-requires-in-End-1 : goal.is_open-requires-in-End-1
is_open-requires-in-End-1 g c κs = search rules

pub returns-in-SetScissor-clause-ok : goal.returns-in-SetScissor-clause-ok
returns-in-SetScissor-clause-ok g c = search rules

pub returns-in-SetScissor-clause-err : goal.returns-in-SetScissor-clause-err
returns-in-SetScissor-clause-err g c = search rules

pub returns-in-Begin-clause-ok : goal.returns-in-Begin-clause-ok
returns-in-Begin-clause-ok g c = search rules

pub returns-in-Begin-clause-err : goal.returns-in-Begin-clause-err
returns-in-Begin-clause-err g c = search rules

pub returns-in-Begin-2-clause-ok : goal.returns-in-Begin-2-clause-ok
returns-in-Begin-2-clause-ok g c = search rules

pub returns-in-Begin-2-clause-err : goal.returns-in-Begin-2-clause-err
returns-in-Begin-2-clause-err g c = search rules

pub returns-in-Begin-3-clause-ok : goal.returns-in-Begin-3-clause-ok
returns-in-Begin-3-clause-ok g c = search rules

pub returns-in-Begin-3-clause-err : goal.returns-in-Begin-3-clause-err
returns-in-Begin-3-clause-err g c = search rules

pub returns-in-End-clause-ok : goal.returns-in-End-clause-ok
returns-in-End-clause-ok g c = search rules

pub returns-in-End-clause-err : goal.returns-in-End-clause-err
returns-in-End-clause-err g c = search rules

pub returns-in-End-2-clause-ok : goal.returns-in-End-2-clause-ok
returns-in-End-2-clause-ok g c = search rules

pub returns-in-End-2-clause-err : goal.returns-in-End-2-clause-err
returns-in-End-2-clause-err g c = search rules

pub returns-in_default-clause-ok : goal.returns-in_default-clause-ok
returns-in_default-clause-ok g c = search rules

pub returns-in_default-clause-err : goal.returns-in_default-clause-err
returns-in_default-clause-err g c = search rules

pub returns-in_default-2-clause-ok : goal.returns-in_default-2-clause-ok
returns-in_default-2-clause-ok g c = search rules

pub returns-in_default-2-clause-err : goal.returns-in_default-2-clause-err
returns-in_default-2-clause-err g c = search rules

pub returns-in_default-3-clause-ok : goal.returns-in_default-3-clause-ok
returns-in_default-3-clause-ok g c = search rules

pub returns-in_default-3-clause-err : goal.returns-in_default-3-clause-err
returns-in_default-3-clause-err g c = search rules

pub returns-in_default-4-clause-ok : goal.returns-in_default-4-clause-ok
returns-in_default-4-clause-ok g c = search rules

pub returns-in_default-4-clause-err : goal.returns-in_default-4-clause-err
returns-in_default-4-clause-err g c = search rules

pub returns-in_default-5-clause-ok : goal.returns-in_default-5-clause-ok
returns-in_default-5-clause-ok g c = search rules

pub returns-in_default-5-clause-err : goal.returns-in_default-5-clause-err
returns-in_default-5-clause-err g c = search rules
