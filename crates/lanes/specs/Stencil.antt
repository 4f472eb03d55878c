-- The stencil test of one face with one reference, at one stored value (Direct3D 11.3 Functional Specification, "Output Merger Stage": depth and stencil state).
use Rattle.std.specs.Prelude.{ℕ, ◌==◌, Bool, bit_and}
use Rattle.std.specs.Int.{bit_at}
use Rattle.gfxspec.specs.DepthStencil.{DepthStencilSetting, FaceSetting, compares, stencil_result, masked, chosen_op}

pub record StencilRule : Type 0 where
  pub setting : DepthStencilSetting
  pub face : FaceSetting
  pub reference : ℕ

-- lane j's bit of a mask
abbrev pub has : ℕ → ℕ → Bool
has bits j = bit_at bits j == 1

-- the reference, on the left, against a stored value
abbrev pub reference_passes : StencilRule → ℕ → Bool
reference_passes r stored =
    compares r.face.func (bit_and r.reference r.setting.read_mask) (bit_and stored r.setting.read_mask)

-- what is stored then, by the outcomes of the stencil test and of the depth test
abbrev pub stencil_after : StencilRule → Bool → Bool → ℕ → ℕ
stencil_after r passes deep stored =
    masked r.setting.write_mask (stencil_result (chosen_op r.face passes deep) stored r.reference) stored
