use Rattle.std.proofs.Common.{ℕ, ◌<◌}
use Rattle.tileblock.specs.Widening.{HoldsRow}
use Rattle.tileblock.proofs.pixels.TilePixels.extremes.Given as goal

abbrev pub invariant-loop-row : goal.invariant-loop-row
invariant-loop-row l = record {
  rows : (r : ℕ) → r < l.row → HoldsRow l.self r l.all;
}
