use Rattle.std.proofs.Common.{arith, ◌∙◌, ap, sym, subst, rules, ◌++◌, ◌∷◌, []}
use Rattle.command.specs.Seen.{command_value}
use Rattle.cmdlist.specs.Recorder.{OnlyLength}
use Rattle.cmdlist.proofs.Recording.{recorded, open_room, pushed}
use Rattle.cmdlist.proofs.context.DeferredContext.append.Goals as goal
use Rattle.std.proofs.lemmas.Grind.{common_steps}

pub note-requires-clause-room : goal.note-requires-clause-room
note-requires-clause-room g c =
    let only = subst (λ l. OnlyLength l (command_value c.args.command) 0) (sym c.self.view_is) c.requires.only in
    λ begins. open_room c.self.inside (command_value c.args.command) 0 c.self.invariant only (search rules) begins

pub invariant_of-self-2 : goal.invariant_of-self-2
invariant_of-self-2 g c =
    let only = subst (λ l. OnlyLength l (command_value c.args.command) 0) (sym c.self.view_is) c.requires.only in
    recorded c.self.inside _ (command_value c.args.command) 0 c.self.invariant only (search rules) (pushed _ _ _ (rw c.unwrap.ensures at c.push.ensures.items ∙ ap (λ xs. xs ++ c.args.command ∷ []) c.try_reserve.ensures.items)) (search rules) (omega arith) (search rules) (search rules) (search rules) (search rules)

pub invariant_of-self : goal.invariant_of-self
invariant_of-self g c = search rules

pub returns-in_err-try_reserve-clause-ok : goal.returns-in_err-try_reserve-clause-ok
returns-in_err-try_reserve-clause-ok g c = search rules

pub returns-in_err-try_reserve-clause-memory : goal.returns-in_err-try_reserve-clause-memory
returns-in_err-try_reserve-clause-memory g c = search rules

pub returns-in_err-try_reserve-clause-err : goal.returns-in_err-try_reserve-clause-err
returns-in_err-try_reserve-clause-err g c = search rules

pub invariant_of-self-in_err-change : goal.invariant_of-self-in_err-change
invariant_of-self-in_err-change g c = search rules

pub returns-in_err-change-clause-ok : goal.returns-in_err-change-clause-ok
returns-in_err-change-clause-ok g c = search rules

pub returns-in_err-change-clause-memory : goal.returns-in_err-change-clause-memory
returns-in_err-change-clause-memory g c = search rules

pub returns-in_err-change-clause-err : goal.returns-in_err-change-clause-err
returns-in_err-change-clause-err g c = search rules

pub unwrap-requires : goal.unwrap-requires
unwrap-requires g c = search rules

pub returns-clause-ok : goal.returns-clause-ok
returns-clause-ok g c = grind (arith, common_steps)

pub returns-clause-memory : goal.returns-clause-memory
returns-clause-memory g c = search rules

pub returns-clause-err : goal.returns-clause-err
returns-clause-err g c = search rules
