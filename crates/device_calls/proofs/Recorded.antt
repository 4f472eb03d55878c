-- What a call ensures of the values that a handle held, from what the function called ensures.
use Rattle.std.proofs.Common.{◌≡◌, ℕ, subst, sym}
use Rattle.std.specs.Prelude.{Option, Some, Result}
use Rattle.gfxspec.specs.declared.error.GfxError.{GfxError}
use Rattle.device_calls.specs.Answers.{answer_of, ByHandle}

-- a relation between the values and the answer
pub by_handle : {S : Type 0} (P : S → S → Result (Unit {0}) GfxError → Type 0) (before behind : Option S) (x y : S) (n : ℕ) (r : Result (Unit {0}) GfxError)
    → before ≡ Some x → behind ≡ Some y → answer_of n ≡ r → P x y r → ByHandle before behind (λ old new. P old new (answer_of n))
by_handle {S} P before behind x y n r e f a p =
    let A : Option S → Type 0 = λ v. ByHandle v behind (λ old new. P old new (answer_of n)) in
    let B : Option S → Type 0 = λ v. ByHandle (Some x) v (λ old new. P old new (answer_of n)) in
    let C : Result (Unit {0}) GfxError → Type 0 = λ s. P x y s in
    subst A (sym e) (subst B (sym f) (subst C (sym a) p))
