-- What a device gives.
use Rattle.std.specs.Prelude.{ℕ, ◌≡◌, ◌<◌, List, [], ◌++◌, length, take}

-- a source gave n bytes at the front of a piece, none only at its end, and has the rest left
pub record Gives (before after : List ℕ) (piece : List ℕ) (n : ℕ) : Type 0 where
  pub bytes : before ≡ take n piece ++ after
  pub only_at_end : n ≡ 0 → 0 < length piece → before ≡ []
