use Rattle.std.proofs.Common.{rules}
use Rattle.arrayvec.proofs.ArrayVecLemmas.{filter-from_retain}
use Rattle.cmdlist.proofs.queries.Queries.note.Goals as goal

pub returns-in-End-clause-opened : goal.returns-in-End-clause-opened
returns-in-End-clause-opened g c =
    rw c.in-End.is (filter-from_retain _ _ _ (λ x b f' y called. search rules) _ _ c.retain.ensures.filtered)
