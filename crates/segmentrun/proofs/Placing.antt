-- Windows on a board, and as they come back.
use Rattle.std.proofs.Common.{◌≡◌, ◌∙◌, sym, ap, refl, subst, ⊎_elim, inl, inr, ℕ, zero, suc, ◌⊎◌, List, [], ◌∷◌, ◌++◌, length, Some, IfSome}
use Rattle.std.specs.List.{AllZip}
use mathlib.Core.Option.{some, some-injective, some-ne-none}
use lib.ListN.{get_elem?}
use Rattle.gfxspec.specs.declared.geometry.Size.{Size}
use Rattle.gfxspec.specs.Items.{Item}
use Rattle.binner.specs.Compiled.{Compilation}
use Rattle.segmentrun.specs.declared.job.OpenWindow.{OpenWindow}
use Rattle.segmentrun.specs.declared.job.DoneWindow.{DoneWindow}
use Rattle.segmentrun.specs.Windows.{IsCompiled}
use Rattle.segmentrun.specs.Collected.{AreOfWindows}

-- each window has the number of its place
abbrev pub AreNumbered : List OpenWindow → Type 0
AreNumbered windows = (p : ℕ) (window : OpenWindow) → get_elem? windows p ≡ some window → window.number ≡ p

none_there : {A : Type 0} (p : ℕ) (x : A) → get_elem? [] p ≡ some x → ⊥
none_there p x e = some-ne-none x (sym e)

-- an element of a list with one more is one of the list, or that one
one_of : {A : Type 0} (xs : List A) (y : A) (p : ℕ) (x : A) → get_elem? (xs ++ y ∷ []) p ≡ some x → (get_elem? xs p ≡ some x) ⊎ ((p ≡ length xs) × (y ≡ x))
one_of [] y zero x e = inr (refl, some-injective y x e)
one_of [] y (suc p) x e = absurd (none_there p x e)
one_of (z ∷ zs) y zero x e = inl e
one_of (z ∷ zs) y (suc p) x e = ⊎_elim (λ t. inl t) (λ t. inr (ap suc t.0, t.1)) (one_of zs y p x e)

pub one_numbered : (windows : List OpenWindow) (w : OpenWindow) → AreNumbered windows → w.number ≡ length windows → AreNumbered (windows ++ w ∷ [])
one_numbered windows w are here p v e = ⊎_elim
    (λ (t : get_elem? windows p ≡ some v). are p v t)
    (λ (t : (p ≡ length windows) × (w ≡ v)). ap (λ (u : OpenWindow). u.number) (sym t.1) ∙ (here ∙ sym t.0))
    (one_of windows w p v e)

-- what holds of the pair at a place
pair_at : {A B : Type 0} (R : A → B → Type 0) (xs : List A) (ys : List B) (p : ℕ) (y : B) → AllZip R xs ys → get_elem? ys p ≡ some y → (x : A) × (get_elem? xs p ≡ some x) × R x y
pair_at R [] [] p y h e = absurd (none_there p y e)
pair_at R [] (z ∷ zs) p y h e = absurd h
pair_at R (x ∷ xs) [] p y h e = absurd h
pair_at R (x ∷ xs) (z ∷ zs) zero y h e = (x, refl, subst (R x) (some-injective z y e) h.0)
pair_at R (x ∷ xs) (z ∷ zs) (suc p) y h e = pair_at R xs zs p y h.1 e

module _ {A : Type 0} (size : Size) (meant : ℕ → List Item) where
  -- what a job gives of a window
  abbrev pub Gives : OpenWindow → DoneWindow A → Type 0
  Gives w d = (d.number ≡ w.number) × IfSome d.compiled (IsCompiled size (meant w.number))

  -- the results of numbered windows are those of the windows of their places
  pub are_of_windows : (placed : List OpenWindow) (results : List (DoneWindow A)) → AreNumbered placed → AllZip Gives placed results → AreOfWindows size meant results
  are_of_windows placed results are zip p d e = let z = pair_at Gives placed results p d zip e in
      subst (λ (n : ℕ). IfSome d.compiled (IsCompiled size (meant n))) (are p z.0 z.1) z.2.1

  -- the list of a window means what is meant by the window
  pub is_of_window : (results : List (DoneWindow A)) (p n : ℕ) (c : Compilation) → AreOfWindows size meant results → p ≡ n → (d : DoneWindow A) × (get_elem? results p ≡ some d) × (d.compiled ≡ Some c) → IsCompiled size (meant n) c
  is_of_window results p n c are at found =
      subst (λ o. IfSome o (IsCompiled size (meant n))) found.2 (are n found.0 (subst (λ (k : ℕ). get_elem? results k ≡ some found.0) at found.1))
