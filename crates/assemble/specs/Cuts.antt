-- Cuts among the next places of a strip.
use Rattle.std.specs.Prelude.{◌≡◌, ◌≢◌, ℕ, ◌+◌, ◌<◌, ◌≤◌, List, length, drop, slice_index}
use Rattle.assemble.specs.declared.places.Order.{Order}
use Rattle.assemble.specs.declared.places.Order.TheVariants as O

-- none of the next three places is a cut, if there are three
abbrev pub HasNoCutAhead : List ℕ → Type 0
HasNoCutAhead indices = 3 ≤ length indices → (k : ℕ) → k < 3 → slice_index indices k ≢ 65535

-- what is behind a cut among the next three places
pub record IsBehindCut (indices behind : List ℕ) : Type 0 where
  pub place : ℕ
  pub near : place < 3
  pub within : place < length indices
  pub cut : slice_index indices place ≡ 65535
  pub rest : behind ≡ drop (place + 1) indices

-- the next three places make the next triangle
abbrev pub IsReady : Order → List ℕ → Type 0
IsReady O.List indices = Unit {0}
IsReady O.Even indices = HasNoCutAhead indices
IsReady O.Odd indices = HasNoCutAhead indices
