use Rattle.std.proofs.Common.{nat_lt}
use Rattle.binner.specs.Lists.{TakesClear}
use Rattle.binner.proofs.Grid.{Partly}
use Rattle.binner.proofs.lists.add_to_all.Given as goal

abbrev pub invariant-loop-tile : goal.invariant-loop-tile
invariant-loop-tile g l = Partly (λ k. TakesClear l.fn.word) l.fn.lists l.lists (λ k. nat_lt k l.tile)
