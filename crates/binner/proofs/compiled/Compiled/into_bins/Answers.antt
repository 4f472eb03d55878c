use Rattle.std.proofs.Common.{sym, subst}
use Rattle.binmem.specs.Lists.{HasWordsOnlyIn}
use Rattle.binner.proofs.Ending.{only_touched}
use Rattle.binner.proofs.compiled.Compiled.into_bins.Goals as goal

pub reuse_tiles-requires : goal.reuse_tiles-requires
reuse_tiles-requires g c = subst (λ ts. HasWordsOnlyIn ts c.self.inside.bins) (sym c.as_slice.ensures.value) (only_touched _ c.self.invariant)
