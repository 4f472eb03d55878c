use Rattle.std.proofs.Common.{rules, refl, sym, subst, ◌<◌}
use Rattle.std.proofs.lemmas.Option.{slice_get_within}
use Rattle.command.specs.Seen.{state_value}
use Rattle.binner.proofs.Growing.{new_enters, same_enters}
use Rattle.binner.proofs.compiling.current_entry.Goals as goal

pub index-requires : goal.index-requires
index-requires g c =
    let i = c.requires.current c.in-Some.current c.in-Some.is in
    subst (λ n. c.in-Some.current.entry < n) (sym c.args.compiling.now.states.ok.0)
    (slice_get_within c.args.compiling.now.states.items c.in-Some.current.entry i.entry i.place)

pub returns-then-draws_as-clause-enters : goal.returns-then-draws_as-clause-enters
returns-then-draws_as-clause-enters g c =
    same_enters c.args.compiling.now (state_value c.args.state.now) c.args.issues c.in-Some.current c.index.result.now c.requires c.in-Some.is c.index.ensures (c.draws_as.ensures c.if-draws_as.true)

pub returns-clause-enters : goal.returns-clause-enters
returns-clause-enters g c =
    new_enters c.args.compiling.now _ (state_value c.args.state.now) c.args.issues _ (search rules) (search rules) refl refl (search rules) refl refl refl refl refl
