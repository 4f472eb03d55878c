use Rattle.std.proofs.Common.{sym, subst}
use Rattle.command.specs.Seen.{command_value}
use Rattle.scenetext.specs.Seen.{verb_value}
use Rattle.scenetext.specs.Commands.{IsVerb}
use Rattle.scenetext.specs.Scene.{Call, Flush, Execute, Query, Pixel}
use Rattle.player.specs.Lines.{deferred_of}
use Rattle.player.specs.Answered.{ImmediateAnswers}
use Rattle.player.proofs.Answering.{recorded, flushed, executed, asked, looked, list_of}
use Rattle.player.proofs.calls.call_immediate.Goals as goal

pub returns-in-Record : goal.returns-in-Record
returns-in-Record g c =
    let d = deferred_of c.args.deferred.now in
    let old = c.args.immediate.now in
    let new = c.record.new.self in
    let command = command_value c.in-Record.command in
    subst (λ v. ImmediateAnswers d (verb_value v) old new c.untold.result) (sym c.in-Record.is)
    (subst (ImmediateAnswers d (Call command) old new) (sym c.untold.ensures) (recorded d old new command c.record.result c.record.ensures))

pub returns-in-Flush : goal.returns-in-Flush
returns-in-Flush g c =
    let d = deferred_of c.args.deferred.now in
    let old = c.args.immediate.now in
    let new = c.flush_alone.new.self in
    subst (λ v. ImmediateAnswers d (verb_value v) old new c.untold-in-Flush.result) (sym c.in-Flush.is)
    (subst (ImmediateAnswers d Flush old new) (sym c.untold-in-Flush.ensures) (flushed d old new c.flush_alone.result c.flush_alone.ensures))

pub returns-in-Execute : goal.returns-in-Execute
returns-in-Execute g c =
    let d = deferred_of c.args.deferred.now in
    let old = c.args.immediate.now in
    let new = c.enqueue_execution_alone.new.self in
    let line = c.in-Execute in
    let list = c.list-list in
    let own = subst (λ v. IsVerb (verb_value v)) line.is c.requires.verb in
    let named = list_of c.args.deferred.now line.context line.number c.index-deferred-context.result list.result.now own.0 c.requires.wide c.index-deferred-context.is list.ensures.list in
    subst (λ v. ImmediateAnswers d (verb_value v) old new c.untold-in-Execute.result) (sym line.is)
    (subst (ImmediateAnswers d (Execute line.context line.number line.restore) old new) (sym c.untold-in-Execute.ensures)
    (executed d old new line.context line.number line.restore list.result.now c.enqueue_execution_alone.result named list.ensures.none_open list.ensures.accepted c.enqueue_execution_alone.ensures))

pub returns-in-Query : goal.returns-in-Query
returns-in-Query g c =
    let d = deferred_of c.args.deferred.now in
    let old = c.args.immediate.now in
    let new = c.get_data_alone.new.self in
    let query = c.in-Query.query in
    subst (λ v. ImmediateAnswers d (verb_value v) old new c.count_told.result) (sym c.in-Query.is)
    (subst (ImmediateAnswers d (Query query) old new) (sym c.count_told.ensures) (asked d old new query c.get_data_alone.result c.get_data_alone.ensures.runs c.get_data_alone.ensures.value))

pub returns-in-Pixel : goal.returns-in-Pixel
returns-in-Pixel g c =
    let d = deferred_of c.args.deferred.now in
    let old = c.args.immediate.now in
    let new = c.pixel_alone.new.self in
    let at = c.in-Pixel in
    subst (λ v. ImmediateAnswers d (verb_value v) old new c.pixel_told.result) (sym at.is)
    (subst (ImmediateAnswers d (Pixel at.x at.y) old new) (sym c.pixel_told.ensures) (looked d old new at.x at.y c.pixel_alone.result c.pixel_alone.ensures.runs c.pixel_alone.ensures.value))
