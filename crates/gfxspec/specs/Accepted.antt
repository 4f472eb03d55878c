-- Lists of accepted commands: what every call that records keeps, as one statement.
use Rattle.std.specs.Prelude.{◌≡◌, nat_lt, true, false, List, [], ◌∷◌, ◌++◌, length, None}
use Rattle.std.specs.List.{list_all}
use Rattle.gfxspec.specs.declared.TheConstants.{BUFFER_LIMIT}
use Rattle.gfxspec.specs.State.{Settings}
use Rattle.gfxspec.specs.Commands.{Command, Kept}
use Rattle.gfxspec.specs.Refusals.{first_row, is_in_range, is_bad_scissor, is_bad_predicate, list_rows}

-- settings that accepted commands can leave
pub record AreSound (s : Settings) : Type 0 where
  pub vertex_count : nat_lt BUFFER_LIMIT (length s.vertices) ≡ false
  pub in_range : list_all is_in_range s.vertices ≡ true
  pub index_count : nat_lt BUFFER_LIMIT (length s.indices) ≡ false
  pub scissor : is_bad_scissor s.scissor ≡ false
  pub predicate : is_bad_predicate s.predicate ≡ false

-- a command that was accepted behind those of its list; kept settings stand at the front alone
abbrev pub IsAccepted : List Command → Command → Type 0
IsAccepted earlier (Kept s) = (earlier ≡ []) × AreSound s
IsAccepted earlier c = first_row (list_rows earlier c) ≡ None

abbrev pub AcceptedBehind : List Command → List Command → Type 0
AcceptedBehind earlier [] = Unit {0}
AcceptedBehind earlier (c ∷ cs) = IsAccepted earlier c × AcceptedBehind (earlier ++ c ∷ []) cs

-- the commands of a list, each accepted behind those before it
abbrev pub AreAccepted : List Command → Type 0
AreAccepted commands = AcceptedBehind [] commands
