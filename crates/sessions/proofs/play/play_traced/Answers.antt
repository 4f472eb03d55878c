use Rattle.std.proofs.Common.{rules, ◌≡◌}
use Rattle.std.specs.Prelude.{is_none, true, false}
use Rattle.sessions.proofs.Steps.{interrupted_still, uninterrupted, last_allowed}
use Rattle.sessions.proofs.Beside.{all_traced_beside}
use Rattle.sessions.proofs.play.play_traced.Goals as goal

pub returns-then-is_some-clause-ended : goal.returns-then-is_some-clause-ended
returns-then-is_some-clause-ended g c ok =
    let reached = c.take_lines-context.ensures.reached ok in
    (reached.0, interrupted_still _ _ _ c.take_lines-context.result.interruption (search rules) reached.2)

pub returns-then-is_some-clause-traced : goal.returns-then-is_some-clause-traced
returns-then-is_some-clause-traced g c x y t ok = interrupted_still _ _ _ c.take_lines-context.result.interruption (search rules) (c.take_lines-context.ensures.traced x y t ok)

pub returns-clause-ended : goal.returns-clause-ended
returns-clause-ended g c ok =
    let p = c.take_lines-context.result in
    let none : is_none p.interruption ≡ true = search rules in
    let reached = c.take_lines-context.ensures.reached ok in
    let r = c.behind_last in
    (reached.0, last_allowed c.args.traced.context.surface.size c.args.lines.now p.context.context reached.0 (uninterrupted _ _ p.interruption none reached.2) r.result c.len.result c.end-last.result (search rules) c.end-last.ensures.answer r.ensures.interruption)

pub returns-clause-traced : goal.returns-clause-traced
returns-clause-traced g c x y t ok =
    let p = c.take_lines-context.result in
    let none : is_none p.interruption ≡ true = search rules in
    let reached = c.take_lines-context.ensures.reached ok in
    let r = c.behind_last in
    all_traced_beside c.args.traced.context.surface.size c.args.lines.now x y p.context c.end-last.new.self reached.0 c.len.result c.end-last.result r.result (uninterrupted _ _ p.interruption none reached.2)
    c.end-last.ensures.traced (uninterrupted _ _ p.interruption none (c.take_lines-context.ensures.traced x y t ok)) r.ensures.context r.ensures.interruption
