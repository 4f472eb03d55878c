-- A `&` to the contents shows the value, which lends itself for as long as its type lives.
use mathlib.Core.List.{[], ◌++◌}
use base.Fml.{Incl, Incl-trans}
use contract.BorrowLft.{meet_⊑_left}
use denote.RattleType.{RattleType}
use denote.Shares.{Shares-less}
use denote.Param.Laws.{Laws}
use denote.Param.Shared.{copy_shared}
use denote.Struct.Field.{RawPtr-field}
use denote.Struct.Laws.{RawPtr-copy}
use denote.Struct.Lending.{lent_at_shr_laws, Lends-lies, of_Lends}
use Rattle.binmem.specs.contracts.parts.Contents as C
use Rattle.binmem.proofs.parts.Contents.TheLaw.Statement.{statement}

module _ (V : RattleType) (laws : Laws V) where
  abbrev Row : RattleType
  Row = C.the_row V

  -- the contents live no longer than their value
  shorter : Incl Row.lives V.lives
  shorter = Incl-trans (meet_⊑_left (V.lives ++ []) _) (meet_⊑_left V.lives [])

pub shares : (V : RattleType) (laws : Laws V) → statement V laws
shares V laws =
    let pointer = copy_shared RawPtr-field RawPtr-copy in
    of_Lends (C.struct V) (C.the_codes V.Denot V.coded) (C.the_heap V) (C.the_lent V) (λ c _. lent_at_shr_laws V laws.shr_laws c.at c.value) (pointer, tt) (λ M 𝓤 𝓛 c _.
    let lends = Shares-less 𝓛 V V.lives (Row V laws).lives (shorter V laws) (laws.shares 𝓛) c.value in
    Lends-lies 𝓛 V (Row V laws).lives c.at c.value lends)
