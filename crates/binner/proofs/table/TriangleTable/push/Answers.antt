use Rattle.std.proofs.Common.{sym, subst, ◌∷◌, []}
use Rattle.binner.specs.Remembered.{AreRemembered}
use Rattle.binner.proofs.Remembering.{all_remembered_more}
use Rattle.binner.proofs.table.TriangleTable.push.Goals as goal

pub invariant_of-self : goal.invariant_of-self
invariant_of-self g c = subst (λ ts. AreRemembered ts c.self.inside.draws.items) (sym c.in_err-push.ensures.items) c.self.invariant

pub invariant_of-self-2 : goal.invariant_of-self-2
invariant_of-self-2 g c =
    subst (λ ts. AreRemembered ts c.self.inside.draws.items) (sym c.in_ok-push.ensures.items)
    (all_remembered_more c.self.inside.setups.items (c.args.setup ∷ []) c.self.inside.draws.items c.self.invariant)
