use Rattle.std.proofs.Common.{◌≡◌, ◌+◌, ◌%◌, ◌<◌, ℕ, length, get_or}
use Rattle.device_calls.proofs.rows.store_together.Given as goal

abbrev pub invariant-loop-j : goal.invariant-loop-j
invariant-loop-j g l = record {
  len : length l.row ≡ length l.fn.row;
  before : (d : _) (k : ℕ) → k < l.at → get_or l.row k d ≡ get_or l.fn.row k d;
  here : (d : _) (k : ℕ) → k < l.j → get_or l.row (l.at + k) d ≡ get_or l.eight (l.x % 8 + k) d;
}
