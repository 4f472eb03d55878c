use Rattle.std.proofs.Common.{ℕ, ◌<◌, ◌+◌, ◌*◌}
use Rattle.tileblock.specs.Widening.{HoldsSpan}
use Rattle.tileblock.proofs.pixels.TilePixels.cell_extremes.Given as goal

abbrev pub invariant-loop-k : goal.invariant-loop-k
invariant-loop-k l = record {
  rows : (i : ℕ) → i < l.k → HoldsSpan l.self l.span (8 * l.cell + i) l.all;
}
