-- Choices by their numbers: what a number names, and that it is named by no other.
use Rattle.std.proofs.Common.{◌≡◌, ◌≢◌, ℕ, ◌-◌, Bool, true, false, eqb, [], ◌∷◌, get_or, zero, suc, refl, arith}
use Rattle.std.specs.Prelude.{Option, Some, None, IfNone}
use Rattle.gfxspec.specs.declared.state.Cull.{Cull}
use Rattle.gfxspec.specs.declared.state.Cull.TheVariants as culls
use Rattle.gfxspec.specs.declared.state.Topology.{Topology}
use Rattle.gfxspec.specs.declared.state.Topology.TheVariants.{TriangleList, TriangleStrip}
use Rattle.gfxspec.specs.declared.state.Compare.{Compare}
use Rattle.gfxspec.specs.declared.state.Compare.TheVariants as compares
use Rattle.gfxspec.specs.declared.state.StencilOp.{StencilOp}
use Rattle.gfxspec.specs.declared.state.StencilOp.TheVariants as stencils
use Rattle.gfxspec.specs.declared.state.LogicOp.{LogicOp}
use Rattle.gfxspec.specs.declared.state.LogicOp.TheVariants as logics
use Rattle.gfxspec.specs.Numbers.{cull_number, topology_number, compare_number, stencil_op_number, logic_op_number}
use Rattle.scenetext.specs.declared.range.Range.{Range}
use Rattle.scenetext.specs.declared.range.TheConstants.{FLAG, CULL, TOPOLOGY, COMPARISON, STENCIL_OP, LOGIC_OP}
use Rattle.scenetext.specs.Commands.{flag_number}
use Rattle.scenetext.specs.Ranges.{IsIn}

-- a number is out of range where no choice has it
pub no_choice : {T : Type 0} (number : T → ℕ) (n : ℕ) (found : Option T) (x : T) (r : Range) → (IsIn r n → number x ≡ n) → IfNone found ((one : T) → number one ≢ n) → IfNone found (IsIn r n → ⊥)
no_choice number n (Some t) x r back none = tt
no_choice number n None x r back none = λ h. none x (back h)

-- ---- flags

abbrev pub flag_from : ℕ → Bool
flag_from n = eqb n 1

pub flag_back : (n : ℕ) → IsIn FLAG n → flag_number (flag_from n) ≡ n
flag_back zero h = refl
flag_back (suc zero) h = refl
flag_back (suc (suc n)) h = absurd (omega (arith, h.high))

pub flag_again : (b : Bool) → flag_from (flag_number b) ≡ b
flag_again true = refl
flag_again false = refl

-- ---- topologies

abbrev pub topology_from : ℕ → Topology
topology_from n = get_or (TriangleList ∷ TriangleStrip ∷ []) (n - 4) TriangleList

pub topology_back : (n : ℕ) → IsIn TOPOLOGY n → topology_number (topology_from n) ≡ n
topology_back zero h = absurd (omega (arith, h.low))
topology_back (suc zero) h = absurd (omega (arith, h.low))
topology_back (suc (suc zero)) h = absurd (omega (arith, h.low))
topology_back (suc (suc (suc zero))) h = absurd (omega (arith, h.low))
topology_back (suc (suc (suc (suc zero)))) h = refl
topology_back (suc (suc (suc (suc (suc zero))))) h = refl
topology_back (suc (suc (suc (suc (suc (suc n)))))) h = absurd (omega (arith, h.high))

pub topology_again : (x : Topology) → topology_from (topology_number x) ≡ x
topology_again TriangleList = refl
topology_again TriangleStrip = refl

-- ---- cull modes

abbrev pub cull_from : ℕ → Cull
cull_from n = get_or (culls.None ∷ culls.Front ∷ culls.Back ∷ []) (n - 1) culls.None

pub cull_back : (n : ℕ) → IsIn CULL n → cull_number (cull_from n) ≡ n
cull_back zero h = absurd (omega (arith, h.low))
cull_back (suc zero) h = refl
cull_back (suc (suc zero)) h = refl
cull_back (suc (suc (suc zero))) h = refl
cull_back (suc (suc (suc (suc n)))) h = absurd (omega (arith, h.high))

pub cull_again : (x : Cull) → cull_from (cull_number x) ≡ x
cull_again culls.None = refl
cull_again culls.Front = refl
cull_again culls.Back = refl

-- ---- comparisons

abbrev pub compare_from : ℕ → Compare
compare_from n = get_or (compares.Never ∷ compares.Less ∷ compares.Equal ∷ compares.LessEqual ∷ compares.Greater ∷ compares.NotEqual ∷ compares.GreaterEqual ∷ compares.Always ∷ []) (n - 1) compares.Never

pub compare_back : (n : ℕ) → IsIn COMPARISON n → compare_number (compare_from n) ≡ n
compare_back zero h = absurd (omega (arith, h.low))
compare_back (suc zero) h = refl
compare_back (suc (suc zero)) h = refl
compare_back (suc (suc (suc zero))) h = refl
compare_back (suc (suc (suc (suc zero)))) h = refl
compare_back (suc (suc (suc (suc (suc zero))))) h = refl
compare_back (suc (suc (suc (suc (suc (suc zero)))))) h = refl
compare_back (suc (suc (suc (suc (suc (suc (suc zero))))))) h = refl
compare_back (suc (suc (suc (suc (suc (suc (suc (suc zero)))))))) h = refl
compare_back (suc (suc (suc (suc (suc (suc (suc (suc (suc n))))))))) h = absurd (omega (arith, h.high))

pub compare_again : (x : Compare) → compare_from (compare_number x) ≡ x
compare_again compares.Never = refl
compare_again compares.Less = refl
compare_again compares.Equal = refl
compare_again compares.LessEqual = refl
compare_again compares.Greater = refl
compare_again compares.NotEqual = refl
compare_again compares.GreaterEqual = refl
compare_again compares.Always = refl

-- ---- stencil operations

abbrev pub stencil_op_from : ℕ → StencilOp
stencil_op_from n = get_or (stencils.Keep ∷ stencils.Zero ∷ stencils.Replace ∷ stencils.IncrSat ∷ stencils.DecrSat ∷ stencils.Invert ∷ stencils.Incr ∷ stencils.Decr ∷ []) (n - 1) stencils.Keep

pub stencil_op_back : (n : ℕ) → IsIn STENCIL_OP n → stencil_op_number (stencil_op_from n) ≡ n
stencil_op_back zero h = absurd (omega (arith, h.low))
stencil_op_back (suc zero) h = refl
stencil_op_back (suc (suc zero)) h = refl
stencil_op_back (suc (suc (suc zero))) h = refl
stencil_op_back (suc (suc (suc (suc zero)))) h = refl
stencil_op_back (suc (suc (suc (suc (suc zero))))) h = refl
stencil_op_back (suc (suc (suc (suc (suc (suc zero)))))) h = refl
stencil_op_back (suc (suc (suc (suc (suc (suc (suc zero))))))) h = refl
stencil_op_back (suc (suc (suc (suc (suc (suc (suc (suc zero)))))))) h = refl
stencil_op_back (suc (suc (suc (suc (suc (suc (suc (suc (suc n))))))))) h = absurd (omega (arith, h.high))

pub stencil_op_again : (x : StencilOp) → stencil_op_from (stencil_op_number x) ≡ x
stencil_op_again stencils.Keep = refl
stencil_op_again stencils.Zero = refl
stencil_op_again stencils.Replace = refl
stencil_op_again stencils.IncrSat = refl
stencil_op_again stencils.DecrSat = refl
stencil_op_again stencils.Invert = refl
stencil_op_again stencils.Incr = refl
stencil_op_again stencils.Decr = refl

-- ---- logic operations

abbrev pub logic_op_from : ℕ → LogicOp
logic_op_from n = get_or (logics.Clear ∷ logics.Set ∷ logics.Copy ∷ logics.CopyInverted ∷ logics.Noop ∷ logics.Invert ∷ logics.And ∷ logics.Nand ∷ logics.Or ∷ logics.Nor ∷ logics.Xor ∷ logics.Equiv ∷ logics.AndReverse ∷ logics.AndInverted ∷ logics.OrReverse ∷ logics.OrInverted ∷ []) n logics.Clear

pub logic_op_back : (n : ℕ) → IsIn LOGIC_OP n → logic_op_number (logic_op_from n) ≡ n
logic_op_back zero h = refl
logic_op_back (suc zero) h = refl
logic_op_back (suc (suc zero)) h = refl
logic_op_back (suc (suc (suc zero))) h = refl
logic_op_back (suc (suc (suc (suc zero)))) h = refl
logic_op_back (suc (suc (suc (suc (suc zero))))) h = refl
logic_op_back (suc (suc (suc (suc (suc (suc zero)))))) h = refl
logic_op_back (suc (suc (suc (suc (suc (suc (suc zero))))))) h = refl
logic_op_back (suc (suc (suc (suc (suc (suc (suc (suc zero)))))))) h = refl
logic_op_back (suc (suc (suc (suc (suc (suc (suc (suc (suc zero))))))))) h = refl
logic_op_back (suc (suc (suc (suc (suc (suc (suc (suc (suc (suc zero)))))))))) h = refl
logic_op_back (suc (suc (suc (suc (suc (suc (suc (suc (suc (suc (suc zero))))))))))) h = refl
logic_op_back (suc (suc (suc (suc (suc (suc (suc (suc (suc (suc (suc (suc zero)))))))))))) h = refl
logic_op_back (suc (suc (suc (suc (suc (suc (suc (suc (suc (suc (suc (suc (suc zero))))))))))))) h = refl
logic_op_back (suc (suc (suc (suc (suc (suc (suc (suc (suc (suc (suc (suc (suc (suc zero)))))))))))))) h = refl
logic_op_back (suc (suc (suc (suc (suc (suc (suc (suc (suc (suc (suc (suc (suc (suc (suc zero))))))))))))))) h = refl
logic_op_back (suc (suc (suc (suc (suc (suc (suc (suc (suc (suc (suc (suc (suc (suc (suc (suc n)))))))))))))))) h = absurd (omega (arith, h.high))

pub logic_op_again : (x : LogicOp) → logic_op_from (logic_op_number x) ≡ x
logic_op_again logics.Clear = refl
logic_op_again logics.Set = refl
logic_op_again logics.Copy = refl
logic_op_again logics.CopyInverted = refl
logic_op_again logics.Noop = refl
logic_op_again logics.Invert = refl
logic_op_again logics.And = refl
logic_op_again logics.Nand = refl
logic_op_again logics.Or = refl
logic_op_again logics.Nor = refl
logic_op_again logics.Xor = refl
logic_op_again logics.Equiv = refl
logic_op_again logics.AndReverse = refl
logic_op_again logics.AndInverted = refl
logic_op_again logics.OrReverse = refl
logic_op_again logics.OrInverted = refl
