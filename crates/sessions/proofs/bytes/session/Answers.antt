use Rattle.std.proofs.Common.{sym, subst}
use Rattle.sessions.specs.Writing.{gathering, Writes}
use Rattle.sessions.specs.Performing.{output_by}
use Rattle.sessions.proofs.Endings.{answered_by, caused}
use Rattle.sessions.proofs.bytes.session.Goals as goal

pub returns-in-Err-Memory-clause-answer : goal.returns-in-Err-Memory-clause-answer
returns-in-Err-Memory-clause-answer g c script image lines =
    let output = output_by c.stopped.result.answers.items c.stopped.result.end in
    answered_by _ output c.write_performance.result _ _ (subst (Writes _) (sym c.stopped.ensures) gathering) (c.write_performance.ensures.wrote image lines)

pub returns-clause-answer : goal.returns-clause-answer
returns-clause-answer g c script image lines =
    let output = output_by c.perform_in_threads-performance.result.answers.items c.perform_in_threads-performance.result.end in
    answered_by _ output c.write_performance-2.result _ _ (subst (λ t. Writes t output) (c.in-Ok.ensures.all script) c.perform_in_threads-performance.ensures) (c.write_performance-2.ensures.wrote image lines)

pub returns-clause-cause : goal.returns-clause-cause
returns-clause-cause g c = caused c.write_performance-2.result _ _ _ _ c.in-Ok.ensures.sound c.write_performance-2.ensures.cause
