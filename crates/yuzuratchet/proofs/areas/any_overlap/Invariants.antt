use Rattle.std.proofs.Common.{◌≡◌, drop}
use Rattle.yuzuratchet.specs.Areas.{any_overlap}
use Rattle.yuzuratchet.proofs.areas.any_overlap.Given as goal

abbrev pub invariant-loop-place : goal.invariant-loop-place
invariant-loop-place l = any_overlap l.fn.areas ≡ any_overlap (drop l.place l.fn.areas)
