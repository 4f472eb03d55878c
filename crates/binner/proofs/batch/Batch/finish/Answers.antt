use Rattle.std.proofs.Common.{sym, subst, arith}
use Rattle.binner.specs.Compiling.{HasCompiled}
use Rattle.binner.specs.Batched.{MeansItems}
use Rattle.binner.proofs.Ending.{is_compilation, means_items}
use Rattle.binner.proofs.batch.Batch.finish.Goals as goal

pub finished-requires : goal.finished-requires
finished-requires g c = is_compilation 0 c.self.inside.compiling c.self.invariant.items c.self.invariant.compiled (omega arith) c.self.invariant.sound

pub returns-clause-means : goal.returns-clause-means
returns-clause-means g c is h =
    subst (MeansItems is) (sym c.finished.ensures) (means_items 0 c.self.inside.compiling is (subst (λ k. HasCompiled k is) (sym c.self.view_is) h))
