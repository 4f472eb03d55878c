-- The machine value of a handle, and what it owns. Assumes `Logic`.
use Rattle.std.proofs.Common.{◌≡◌, T, List, [], ◌∷◌, ◌++◌, refl, ap, ◌∙◌, lit<}
use seplogic.Ra.Ura.{Ura}
use mir.Syntax.{ty_ptr, ty_struct, tcons, tnil}
use mir.Val.{Val, vstruct, vcons, vnil, of_list, has_ty, WT}
use base.Logic.{ent, emp}
use types.Logic.{Logic, sem}
use denote.RattleType.{RattleType}
use denote.Laws.{Is}
use denote.RawPtr.{Ptr, block_ptr, null_ptr, ptr_val}
use denote.Shadow.{makes_shadow}
use denote.Struct.Struct.{Struct}
use denote.Struct.Owning.{shape}
use Rattle.handles.specs.contracts.playing.PlayerHandle as handle

abbrev pub word : Ptr → Val
word p = vstruct (vcons (ptr_val p) vnil)

pub word_good : (p : Ptr) → T (has_ty (ty_struct [] (tcons ty_ptr tnil)) (word p)) × WT (word p)
word_good (block_ptr b o) = (tt, (tt, tt))
word_good null_ptr = (tt, (record { fits = lit< tt }, tt))

abbrev pub Data : RattleType
Data = Struct (shape handle.the_type)

pub told : (p : Ptr) (vs : List Val) → Is Data (p, tt) vs → vs ≡ word p ∷ []
told p vs is = is.1.0 ∙ ap (λ (ws : List Val). vstruct (of_list (ws ++ [])) ∷ []) is.1.1.0

pub made : {M : Type 1} {𝓤 : Ura M} (𝓛 : Logic 𝓤) (p : Ptr) → ent 𝓤 (emp 𝓤) (sem 𝓛 (Data.own_val (p, tt) (word p ∷ [])))
made 𝓛 p = makes_shadow 𝓛 (Data.own_val (p, tt) (word p ∷ [])) (λ vss. (tt, (tt, tt))) ((ptr_val p ∷ [], tt), (refl, (refl, tt)))
