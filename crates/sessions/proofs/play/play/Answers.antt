use Rattle.std.proofs.Common.{rules, ◌≡◌, ◌∙◌, sym, subst, refl, length}
use Rattle.std.specs.Prelude.{is_none, true, false}
use Rattle.sessions.specs.Playing.{HasReached, HasFinished, IsPlayedTo}
use Rattle.sessions.proofs.Steps.{interrupted_still, uninterrupted, last_made}
use Rattle.sessions.proofs.play.play.Goals as goal

pub returns-then-is_some-clause-played : goal.returns-then-is_some-clause-played
returns-then-is_some-clause-played g c ok =
    let size = (g.C.RecordsCalls.held c.args.immediate).surface.size in
    let ls = c.args.lines.now in
    let p = c.take_lines-context.result in
    let reached = c.take_lines-context.ensures.reached ok in
    interrupted_still _ _ _ p.interruption (search rules)
    (subst (λ t. IsPlayedTo (λ d. HasReached size ls (length ls) (g.C.RecordsCalls.held d) t) size ls t p) (sym (reached.1 c.requires.heard)) reached.2)

pub returns-clause-played : goal.returns-clause-played
returns-clause-played g c ok =
    let size = (g.C.RecordsCalls.held c.args.immediate).surface.size in
    let ls = c.args.lines.now in
    let p = c.take_lines-context.result in
    let none : is_none p.interruption ≡ true = search rules in
    let reached = c.take_lines-context.ensures.reached ok in
    let there = uninterrupted _ _ p.interruption none reached.2 in
    let r = c.behind_last in
    let told : r.result.answers.items ≡ p.answers.items = search rules in
    let made = last_made size ls (g.C.RecordsCalls.held p.context) reached.0 there r.result g.C.RecordsCalls.held c.len.result _ c.run-last.result (search rules)
    (c.requires.runs _ _ _ _ _ c.run-last.ensures) r.ensures.context r.ensures.interruption in
    subst (λ t. IsPlayedTo (λ d. HasFinished size ls (g.C.RecordsCalls.held d) t) size ls t r.result) (sym (told ∙ reached.1 c.requires.heard)) made
