use Rattle.std.proofs.Common.{rules, sym, ◌∙◌}
use Rattle.std.proofs.lemmas.Slice.Eq.{slice_eq-Decides}
use Rattle.binner.proofs.earlier.EarlierDraw.is_of.Goals as goal

pub returns-clause-vertices : goal.returns-clause-vertices
returns-clause-vertices g c same =
    sym c.as_slice.ensures.value
    ∙ (slice_eq-Decides (λ a b. (λ e. search rules, λ e. search rules)) c.as_slice.result.now c.args.vertices.now c.eq.result c.eq.ensures).0 same
