use Rattle.std.proofs.Common.{◌≡◌, ◌+◌, ◌-◌, ◌<◌, ◌≤◌, ℕ, length, get_or}
use Rattle.tileblock.specs.Surface.{pixel_of}
use Rattle.device_calls.specs.Rows.{color_cell, no_cell}
use Rattle.device_calls.proofs.rows.store_colors.Given as goal

abbrev pub invariant-loop-k : goal.invariant-loop-k
invariant-loop-k l = record {
  len : length l.row ≡ length l.fn.row;
  stored : (j : ℕ) → j < l.k → get_or l.row j no_cell ≡ color_cell l.bgra (pixel_of l.target (l.left + j) l.y);
}

abbrev pub decreases-loop-k : goal.decreases-loop-k
decreases-loop-k l = length l.row - l.k
