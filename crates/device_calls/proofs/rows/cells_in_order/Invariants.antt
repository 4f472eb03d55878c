use Rattle.std.proofs.Common.{◌≡◌, ◌<◌, ℕ, length, get_or}
use Rattle.std.specs.Prelude.{slice_index}
use Rattle.std.specs.Int.{w32, to_le_bytes}
use Rattle.device_calls.specs.Rows.{cell_of, no_cell}
use Rattle.device_calls.proofs.rows.cells_in_order.Given as goal

abbrev pub invariant-loop-j : goal.invariant-loop-j
invariant-loop-j l = record {
  len : length l.cells ≡ 8;
  made : (k : ℕ) → k < l.j → get_or l.cells k no_cell ≡ cell_of l.bgra (to_le_bytes w32 (slice_index l.colors k));
}
