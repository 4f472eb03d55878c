use Rattle.std.proofs.Common.{sym, subst}
use Rattle.scenetext.specs.Seen.{verb_value}
use Rattle.sessions.specs.Taking.{HasTaken}
use Rattle.sessions.proofs.Ran.{taken_behind}
use Rattle.sessions.proofs.play.take_verb.Goals as goal

pub returns-in_ok-run-in-Execute-clause-taken : goal.returns-in_ok-run-in-Execute-clause-taken
returns-in_ok-run-in-Execute-clause-taken g c = λ ok.
    let w = g.S.ListSource.right c.seek.new.self in
    let old = g.C.RecordsCalls.held c.args.context.now in
    let new = g.C.RecordsCalls.held c.run-in-Execute.new.arg2 in
    let line = c.in-Execute in
    let ran = c.requires.runs _ _ _ _ _ c.in_ok-run-in-Execute.ensures in
    subst (λ v. HasTaken g.C.RecordsCalls.heard g.C.RecordsCalls.flushed w (verb_value v) old new) (sym line.is)
    (taken_behind w line.of line.number line.restore old (g.C.RecordsCalls.held c.settle_unless_here.new.context) new c.in_ok-settle_unless_here-in-Execute.ensures.stays (ran.did ok))
