use Rattle.std.proofs.Common.{drop}
use Rattle.binner.proofs.Lasting.{Keeps}
use Rattle.binner.proofs.lists.is_drawn_since.Given as goal

abbrev pub invariant-loop-place : goal.invariant-loop-place
invariant-loop-place l = Keeps (drop l.place l.tail)
