use Rattle.std.proofs.Common.{rules, ◌≤◌, ◌<◌, ◌∙◌, ap, sym, subst, refl}
use Rattle.sessions.specs.Playing.{own_count, IsInterrupted}
use Rattle.sessions.proofs.Steps.{more_inside, next_line, written_next, interrupted, none_reached, none_traced, traced_next, all_reached, all_traced}
use Rattle.sessions.proofs.play.take_lines.Goals as goal

pub loop-next-init : goal.loop-next-init
loop-next-init g c = record {
  below = search rules;
  frame = refl;
  right = refl;
  agrees = λ ok. ok;
  reached = λ ok. (c.new-answers.result.items, (λ is. refl), none_reached c.args.lines.now (g.C.RecordsCalls.held c.args.immediate) c.new-answers.result.items c.requires.may.sound c.requires.may.start (search rules));
  traced = λ x y t ok. none_traced (g.C.RecordsCalls.held c.args.immediate).surface.size c.args.lines.now c.requires.may.sound g.C.RecordsCalls.traces x y c.args.immediate t;
}

pub take_verb-requires-clause-verb : goal.take_verb-requires-clause-verb
take_verb-requires-clause-verb g c =
    let few : c.loop-next.next < own_count c.args.lines.now = search rules in
    (next_line _ _ _ c.requires.may.sound few c.line-place.ensures.line).is.verb

pub returns-in-Err-clause-reached : goal.returns-in-Err-clause-reached
returns-in-Err-clause-reached g c ok =
    let size = (g.C.RecordsCalls.held c.args.immediate).surface.size in
    let few : c.loop-next.next < own_count c.args.lines.now = search rules in
    let next = next_line _ _ _ c.requires.may.sound few c.line-place.ensures.line in
    let reached = c.loop-next.invariant.reached (c.take_verb.ensures.agrees ok) in (
      reached.0,
      (λ is. c.in-Err.ensures.untold ∙ reached.1 is),
      subst (λ p. IsInterrupted size c.args.lines.now p c.in-Err.why reached.0) (sym c.line-place.ensures.place)
          (interrupted size _ _ _ (g.C.RecordsCalls.held c.loop-next.context) reached.0 next reached.2 c.in-Err.why c.in-Err.ensures.why),
    )

pub loop-next-preserved : goal.loop-next-preserved
loop-next-preserved g c =
    let size = (g.C.RecordsCalls.held c.args.immediate).surface.size in
    let few : c.loop-next.next < own_count c.args.lines.now = search rules in
    let next = next_line _ _ _ c.requires.may.sound few c.line-place.ensures.line in
    let held = c.loop-next.invariant in
    let taken = c.take_verb in
    let right = taken.ensures.right ∙ held.right in
    record {
      below = more_inside c.loop-next.next (own_count c.args.lines.now) few;
      frame = taken.ensures.frame ∙ held.frame;
      right = right;
      agrees = λ ok. held.agrees (taken.ensures.agrees ok);
      reached = λ ok.
          let before = held.reached (taken.ensures.agrees ok) in
          written_next size _ _ _ (g.C.RecordsCalls.held c.loop-next.context) before.0 next before.2 g.C.RecordsCalls.heard g.C.RecordsCalls.flushed g.met.C.RecordsCalls.flushed_runs (g.S.ListSource.right taken.new.lists) (g.C.RecordsCalls.held taken.new.context) _ _ (λ k n. ap (λ f. f k n) right ∙ c.requires.may.lists k n) c.in_default.ensures.accepted (c.in_default.ensures.taken ok) before.1 c.in_default.ensures.told;
      traced = λ x y t ok.
          let before = held.reached (taken.ensures.agrees ok) in
          traced_next size _ _ _ (g.C.RecordsCalls.held c.loop-next.context) before.0 next before.2 g.C.RecordsCalls.traces (g.S.ListSource.right taken.new.lists) x y c.loop-next.context taken.new.context (λ k n. ap (λ f. f k n) right ∙ c.requires.may.lists k n) (c.in_default.ensures.traced ok) (held.traced x y t (taken.ensures.agrees ok));
    }

pub returns-clause-reached : goal.returns-clause-reached
returns-clause-reached g c ok =
    let ls = c.args.lines.now in
    let most : own_count ls ≤ c.loop-next.next = search rules in
    let reached = c.loop-next.invariant.reached ok in
    (reached.0, reached.1, all_reached (g.C.RecordsCalls.held c.args.immediate).surface.size ls c.loop-next.next (g.C.RecordsCalls.held c.loop-next.context) reached.0 most reached.2)

pub returns-clause-traced : goal.returns-clause-traced
returns-clause-traced g c x y t ok =
    let ls = c.args.lines.now in
    let most : own_count ls ≤ c.loop-next.next = search rules in
    all_traced (g.C.RecordsCalls.held c.args.immediate).surface.size ls c.loop-next.next most g.C.RecordsCalls.traces x y c.loop-next.context (c.loop-next.invariant.traced x y t ok)
