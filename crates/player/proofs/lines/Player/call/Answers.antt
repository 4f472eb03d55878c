use Rattle.std.proofs.Common.{◌≡◌, ◌∙◌, sym, subst, true, List, set}
use Rattle.scenetext.specs.Seen.{actor_value, verb_value}
use Rattle.scenetext.specs.Commands.{may_take}
use Rattle.scenetext.specs.Spelling.{IsActor, is_immediate_actor}
use Rattle.scenetext.specs.Scene.{Deferred}
use Rattle.recorders.specs.Recording.{Recording}
use Rattle.player.specs.Lines.{deferred_of, contexts_of}
use Rattle.player.specs.Answered.{ImmediateAnswers, CallAnswers}
use Rattle.player.proofs.Answering.{on_immediate, on_deferred, unchanged}
use Rattle.player.proofs.lines.Player.call.Goals as goal

pub returns-in-Immediate-clause-answers : goal.returns-in-Immediate-clause-answers
returns-in-Immediate-clause-answers g c =
    let p = c.args.self.now in
    let v = verb_value c.args.line.now.verb in
    let old = c.args.immediate.now in
    let new = c.call_immediate.new.immediate in
    let same : c.as_slice.result.now ≡ p = c.as_slice.ensures.value ∙ c.self.view_is in
    subst (λ a. CallAnswers (contexts_of p old) (actor_value a) v (contexts_of p new) c.call_immediate.result) (sym c.in-Immediate.is)
    (on_immediate p v old new c.call_immediate.result
    (subst (λ (xs : List Recording). ImmediateAnswers (deferred_of xs) v old new c.call_immediate.result) same c.call_immediate.ensures))

pub returns-in-Deferred-clause-answers : goal.returns-in-Deferred-clause-answers
returns-in-Deferred-clause-answers g c =
    let p = c.args.self.now in
    let v = verb_value c.args.line.now.verb in
    let h = c.args.immediate.now in
    let k = c.in-Deferred.context in
    let items = c.self.inside.contexts.items in
    let one = c.call.new.self in
    let low = subst (λ a. IsActor (actor_value a)) c.in-Deferred.is c.requires.actor in
    let taken = subst (λ a. may_take v (is_immediate_actor (actor_value a)) ≡ true) c.in-Deferred.is c.requires.taken in
    let called = c.call.ensures in
    subst (λ a. CallAnswers (contexts_of p h) (actor_value a) v (contexts_of (set items k one) h) c.untold.result) (sym c.in-Deferred.is)
    (subst (CallAnswers (contexts_of p h) (Deferred k) v (contexts_of (set items k one) h)) (sym c.untold.ensures)
    (on_deferred items p h k v c.self.view_is low c.self.invariant taken c.index_mut.result.now one c.index_mut.ensures.value c.call.result called.answer called.ok called.err))

pub returns-in-Deferred-clause-same : goal.returns-in-Deferred-clause-same
returns-in-Deferred-clause-same g c =
    unchanged c.self.inside.contexts.items c.args.self.now c.in-Deferred.context c.index_mut.result.now c.call.new.self c.call.result c.untold.result c.untold.ensures c.self.view_is c.index_mut.ensures.value c.call.ensures.err
