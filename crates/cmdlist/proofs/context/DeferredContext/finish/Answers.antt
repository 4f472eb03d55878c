use Rattle.std.proofs.Common.{rules, arith}
use Rattle.cmdlist.proofs.context.DeferredContext.finish.Goals as goal
use Rattle.std.proofs.lemmas.Grind.{common_steps}

pub returns-clause-list : goal.returns-clause-list
returns-clause-list g c = search rules

pub returns-clause-next : goal.returns-clause-next
returns-clause-next g c = search rules

pub returns-then-has_open_queries-clause-answer : goal.returns-then-has_open_queries-clause-answer
returns-then-has_open_queries-clause-answer g c = search rules

pub returns-then-has_open_queries-clause-list : goal.returns-then-has_open_queries-clause-list
returns-then-has_open_queries-clause-list g c = search rules

pub returns-then-has_open_queries-clause-next : goal.returns-then-has_open_queries-clause-next
returns-then-has_open_queries-clause-next g c = search rules

pub returns-then-has_open_queries-clause-err : goal.returns-then-has_open_queries-clause-err
returns-then-has_open_queries-clause-err g c = search rules

pub returns-in_err-next-clause-answer : goal.returns-in_err-next-clause-answer
returns-in_err-next-clause-answer g c = search rules

pub returns-in_err-next-clause-list : goal.returns-in_err-next-clause-list
returns-in_err-next-clause-list g c = search rules

pub returns-in_err-next-clause-next : goal.returns-in_err-next-clause-next
returns-in_err-next-clause-next g c = search rules

pub returns-in_err-next-clause-err : goal.returns-in_err-next-clause-err
returns-in_err-next-clause-err g c = search rules

pub returns-clause-answer : goal.returns-clause-answer
returns-clause-answer g c = search rules

pub returns-clause-err : goal.returns-clause-err
returns-clause-err g c = search rules

pub into_list-requires : goal.into_list-requires
into_list-requires g c = grind (arith, common_steps)
