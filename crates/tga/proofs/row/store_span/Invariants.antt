use Rattle.std.proofs.Common.{◌≡◌, ◌+◌, ◌<◌, ℕ, [], length, get_or, slice_index}
use Rattle.std.specs.Int.{w32, to_le_bytes}
use Rattle.tga.specs.Image.{kept_color}
use Rattle.tga.proofs.row.store_span.Given as goal

abbrev pub invariant-loop-j : goal.invariant-loop-j
invariant-loop-j l =
    record {
      len : length l.row ≡ 4096;
      here : (k : ℕ) → k < l.j → get_or l.row (l.at + k) [] ≡ kept_color (to_le_bytes w32 (slice_index l.fn.colors k));
      before : (x : ℕ) → x < l.at → get_or l.row x [] ≡ get_or l.fn.row x [];
    }
