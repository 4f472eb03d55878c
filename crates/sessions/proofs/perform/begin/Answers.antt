use Rattle.std.proofs.Common.{subst, []}
use Rattle.std.specs.Prelude.{IfOk, IfErr}
use Rattle.sessions.specs.Writing.{Writes, stopped_output}
use Rattle.sessions.specs.Performing.{HasBegun}
use Rattle.sessions.proofs.perform.begin.Goals as goal

pub returns-clause-begun : goal.returns-clause-begun
returns-clause-begun g c = subst (λ t. IfOk c.begin_from.result (λ b. HasBegun t b.0 b.1)) c.as_slice.ensures.value c.begin_from.ensures.begun

pub returns-clause-stopped : goal.returns-clause-stopped
returns-clause-stopped g c = subst (λ t. IfErr c.begin_from.result (λ at. Writes t (stopped_output [] at.0 at.1))) c.as_slice.ensures.value c.begin_from.ensures.stopped
