use Rattle.scenetext.proofs.ReadLemmas.{list_missing}
use Rattle.scenetext.proofs.verbs.execute.Goals as goal

pub returns-then-finished-context-clause-err : goal.returns-then-finished-context-clause-err
returns-then-finished-context-clause-err g c =
    list_missing c.args.finished.now c.args.words.now c.in_ok-context.context c.in_ok-context.list c.in_ok-context.restore (c.in_ok-context.ensures.ok) c.if-finished-context.true
