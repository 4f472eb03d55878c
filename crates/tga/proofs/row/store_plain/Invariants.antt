use Rattle.std.proofs.Common.{◌≡◌, ◌+◌, ◌<◌, ℕ, [], length, get_or}
use Rattle.tga.proofs.row.store_plain.Given as goal

abbrev pub invariant-loop-j : goal.invariant-loop-j
invariant-loop-j l =
    record {
      len : length l.row ≡ 4096;
      here : (k : ℕ) → k < l.j → get_or l.row (l.at + k) [] ≡ l.kept;
      before : (x : ℕ) → x < l.at → get_or l.row x [] ≡ get_or l.fn.row x [];
    }
