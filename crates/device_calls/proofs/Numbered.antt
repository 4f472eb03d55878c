-- The choice of a number, as it stands among all.
use Rattle.std.proofs.Common.{◌≡◌, ◌≢◌, ℕ, false, List, [], ◌∷◌, Some, None, refl, sym, subst, arith}
use Rattle.std.specs.Prelude.{Option, IfSome, IfNone, ◌==◌, find}
use Rattle.std.proofs.lemmas.Bool.Decides.{nat_tests}
use Rattle.gfxspec.specs.Numbers.{cull_number, topology_number, compare_number, stencil_op_number, logic_op_number}
use Rattle.gfxspec.specs.declared.state.Cull.{Cull}
use Rattle.gfxspec.specs.declared.state.Cull.TheVariants as Cu
use Rattle.gfxspec.specs.declared.state.Topology.{Topology}
use Rattle.gfxspec.specs.declared.state.Topology.TheVariants as To
use Rattle.gfxspec.specs.declared.state.Compare.{Compare}
use Rattle.gfxspec.specs.declared.state.Compare.TheVariants as Co
use Rattle.gfxspec.specs.declared.state.StencilOp.{StencilOp}
use Rattle.gfxspec.specs.declared.state.StencilOp.TheVariants as St
use Rattle.gfxspec.specs.declared.state.LogicOp.{LogicOp}
use Rattle.gfxspec.specs.declared.state.LogicOp.TheVariants as Lo
use Rattle.device_calls.specs.Descriptions.{cull_numbered, topology_numbered, compare_numbered, stencil_op_numbered, logic_op_numbered}

none_found : {T : Type 0} (number : T → ℕ) (n : ℕ) (xs : List T) → ((x : T) → number x ≢ n) → find (λ x. number x == n) xs ≡ None
none_found number n [] h = refl
none_found number n (x ∷ xs) h = rw (other (number x) (h x)) (none_found number n xs h)
  where
    other : (m : ℕ) → m ≢ n → (m == n) ≡ false
    other m d = grind (arith, nat_tests)

-- what has a number, or that nothing has it, by what stands among all
found : {T : Type 0} (number : T → ℕ) (xs : List T) → ((x : T) → find (λ y. number y == number x) xs ≡ Some x) → (n : ℕ) (r : Option T) → IfSome r (λ one. number one ≡ n) → IfNone r ((one : T) → number one ≢ n) → r ≡ find (λ x. number x == n) xs
found number xs all n (Some x) some none = sym (subst (λ m. find (λ y. number y == m) xs ≡ Some x) some (all x))
found number xs all n None some none = sym (none_found number n xs none)

pub cull_found : (n : ℕ) (r : Option Cull) → IfSome r (λ one. cull_number one ≡ n) → IfNone r ((one : Cull) → cull_number one ≢ n) → r ≡ cull_numbered n
cull_found n r some none = found cull_number (Cu.None ∷ Cu.Front ∷ Cu.Back ∷ []) all n r some none
  where
    all : (x : Cull) → cull_numbered (cull_number x) ≡ Some x
    all Cu.None = refl
    all x = refl

pub topology_found : (n : ℕ) (r : Option Topology) → IfSome r (λ one. topology_number one ≡ n) → IfNone r ((one : Topology) → topology_number one ≢ n) → r ≡ topology_numbered n
topology_found n r some none = found topology_number (To.TriangleList ∷ To.TriangleStrip ∷ []) all n r some none
  where
    all : (x : Topology) → topology_numbered (topology_number x) ≡ Some x
    all To.TriangleList = refl
    all x = refl

pub compare_found : (n : ℕ) (r : Option Compare) → IfSome r (λ one. compare_number one ≡ n) → IfNone r ((one : Compare) → compare_number one ≢ n) → r ≡ compare_numbered n
compare_found n r some none = found compare_number (Co.Never ∷ Co.Less ∷ Co.Equal ∷ Co.LessEqual ∷ Co.Greater ∷ Co.NotEqual ∷ Co.GreaterEqual ∷ Co.Always ∷ []) all n r some none
  where
    all : (x : Compare) → compare_numbered (compare_number x) ≡ Some x
    all Co.Never = refl
    all x = refl

pub stencil_op_found : (n : ℕ) (r : Option StencilOp) → IfSome r (λ one. stencil_op_number one ≡ n) → IfNone r ((one : StencilOp) → stencil_op_number one ≢ n) → r ≡ stencil_op_numbered n
stencil_op_found n r some none = found stencil_op_number (St.Keep ∷ St.Zero ∷ St.Replace ∷ St.IncrSat ∷ St.DecrSat ∷ St.Invert ∷ St.Incr ∷ St.Decr ∷ []) all n r some none
  where
    all : (x : StencilOp) → stencil_op_numbered (stencil_op_number x) ≡ Some x
    all St.Keep = refl
    all x = refl

pub logic_op_found : (n : ℕ) (r : Option LogicOp) → IfSome r (λ one. logic_op_number one ≡ n) → IfNone r ((one : LogicOp) → logic_op_number one ≢ n) → r ≡ logic_op_numbered n
logic_op_found n r some none = found logic_op_number (Lo.Clear ∷ Lo.Set ∷ Lo.Copy ∷ Lo.CopyInverted ∷ Lo.Noop ∷ Lo.Invert ∷ Lo.And ∷ Lo.Nand ∷ Lo.Or ∷ Lo.Nor ∷ Lo.Xor ∷ Lo.Equiv ∷ Lo.AndReverse ∷ Lo.AndInverted ∷ Lo.OrReverse ∷ Lo.OrInverted ∷ []) all n r some none
  where
    all : (x : LogicOp) → logic_op_numbered (logic_op_number x) ≡ Some x
    all Lo.Clear = refl
    all x = refl
