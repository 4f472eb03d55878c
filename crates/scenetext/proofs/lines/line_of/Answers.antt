use Rattle.std.proofs.lemmas.Result.{err_from_is_err_and}
use Rattle.scenetext.specs.Seen.{actor_value}
use Rattle.scenetext.proofs.ReadLemmas.{arguments_refused}
use Rattle.scenetext.proofs.lines.line_of.Goals as goal

pub returns-in_err-verb-clause-err : goal.returns-in_err-verb-clause-err
returns-in_err-verb-clause-err g c =
    let p = err_from_is_err_and c.from_residual-in_err-verb.result c.from_residual-in_err-verb.ensures.1 in
    rw (p.1, p.2) (arguments_refused c.args.finished.now c.args.line.bytes.now _ _ (actor_value c.in_ok-actor.actor) c.in_ok-actor.command c.in_err-verb.field-0.0 c.new-words.ensures c.in_ok-actor.ensures.ok c.in_err-verb.ensures.err)
