-- What is written of a colour (Direct3D 11.3 Functional Specification, "Output Merger Stage": logic operations, render target write mask).
use Rattle.std.specs.Prelude.{ℕ, zero, suc, ◌+◌, ◌*◌, ◌^◌, Bool, ◌==◌, List, [], ◌∷◌, slice_index, if◌then◌else◌}
use Rattle.std.specs.Int.{bit_at}
use Rattle.gfxspec.specs.declared.state.LogicOp.{LogicOp}
use Rattle.gfxspec.specs.declared.state.LogicOp.TheVariants.{Clear, Set, Copy, CopyInverted, Noop, Invert, And, Nand, Or, Nor, Xor, Equiv, AndReverse, AndInverted, OrReverse, OrInverted}

-- the resulting bit, where the source's and the stored bit are 0 and 0, 0 and 1, 1 and 0, 1 and 1
abbrev pub truth_table : LogicOp → List ℕ
truth_table Clear = 0 ∷ 0 ∷ 0 ∷ 0 ∷ []
truth_table Set = 1 ∷ 1 ∷ 1 ∷ 1 ∷ []
truth_table Copy = 0 ∷ 0 ∷ 1 ∷ 1 ∷ []
truth_table CopyInverted = 1 ∷ 1 ∷ 0 ∷ 0 ∷ []
truth_table Noop = 0 ∷ 1 ∷ 0 ∷ 1 ∷ []
truth_table Invert = 1 ∷ 0 ∷ 1 ∷ 0 ∷ []
truth_table And = 0 ∷ 0 ∷ 0 ∷ 1 ∷ []
truth_table Nand = 1 ∷ 1 ∷ 1 ∷ 0 ∷ []
truth_table Or = 0 ∷ 1 ∷ 1 ∷ 1 ∷ []
truth_table Nor = 1 ∷ 0 ∷ 0 ∷ 0 ∷ []
truth_table Xor = 0 ∷ 1 ∷ 1 ∷ 0 ∷ []
truth_table Equiv = 1 ∷ 0 ∷ 0 ∷ 1 ∷ []
truth_table AndReverse = 0 ∷ 0 ∷ 1 ∷ 0 ∷ []
truth_table AndInverted = 0 ∷ 1 ∷ 0 ∷ 0 ∷ []
truth_table OrReverse = 1 ∷ 0 ∷ 1 ∷ 1 ∷ []
truth_table OrInverted = 1 ∷ 1 ∷ 0 ∷ 1 ∷ []

abbrev pub logic_bit : LogicOp → ℕ → ℕ → ℕ
logic_bit op source stored = slice_index (truth_table op) (2 * source + stored)

-- the number with these bits, the lowest n of them
abbrev pub number_of_bits : ℕ → (ℕ → ℕ) → ℕ
number_of_bits zero bit = 0
number_of_bits (suc n) bit = number_of_bits n bit + bit n * 2 ^ n

-- an operation on bytes is that on their bits
abbrev pub logic_byte : LogicOp → ℕ → ℕ → ℕ
logic_byte op source stored = number_of_bits 8 (λ k. logic_bit op (bit_at source k) (bit_at stored k))

pub record BlendSetting : Type 0 where
  pub logic : Bool
  pub op : LogicOp
  pub mask : ℕ

-- channel i of what is written: the source's, or the operation on both, where the write mask has bit i
abbrev pub written_channel : BlendSetting → ℕ → ℕ → ℕ → ℕ
written_channel b i source stored =
    if bit_at b.mask i == 1 then (if b.logic then logic_byte b.op source stored else source) else stored

-- the channels from i on: red is 0, green 1, blue 2, alpha 3
abbrev pub written_from : BlendSetting → ℕ → List ℕ → List ℕ → List ℕ
written_from b i [] stored = []
written_from b i (s ∷ source) [] = []
written_from b i (s ∷ source) (d ∷ stored) = written_channel b i s d ∷ written_from b (suc i) source stored

abbrev pub written_color : BlendSetting → List ℕ → List ℕ → List ℕ
written_color b source stored = written_from b 0 source stored
