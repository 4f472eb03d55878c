-- Words that both clears hide.
use Rattle.std.specs.Prelude.{◌≡◌, List, [], ◌∷◌, Option, Some, None}
use Rattle.tileword.specs.declared.word.Word.{Word}
use Rattle.tileword.specs.declared.word.Word.TheVariants.{State, Tri, ClearC, ClearDs}
use Rattle.binner.specs.declared.entry.StateEntry.{StateEntry}
use Rattle.binner.specs.Program.{Tables, force_after}

-- no issue is open where a triangle stands
abbrev pub IsUncounted : Option StateEntry → Word → Type 0
IsUncounted e (State n) = Unit {0}
IsUncounted None (Tri n m) = Unit {0}
IsUncounted (Some e) (Tri n m) = e.issues ≡ 0
IsUncounted e (ClearC n) = Unit {0}
IsUncounted e (ClearDs n) = Unit {0}

abbrev pub AreUncounted : Tables → Option StateEntry → List Word → Type 0
AreUncounted t e [] = Unit {0}
AreUncounted t e (w ∷ ws) = IsUncounted e w × AreUncounted t (force_after t e w) ws

-- two clears of different kinds
abbrev pub AreBothClears : List Word → Type 0
AreBothClears (ClearC m ∷ ClearDs n ∷ []) = Unit {0}
AreBothClears (ClearDs n ∷ ClearC m ∷ []) = Unit {0}
AreBothClears ws = ⊥
