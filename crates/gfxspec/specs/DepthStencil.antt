-- The depth and stencil tests at one pixel (Direct3D 11.3 Functional Specification, "Output Merger Stage": comparison functions, stencil operations, depth and stencil state).
use Rattle.std.specs.Prelude.{ℕ, ◌+◌, ◌-◌, ◌%◌, Bool, true, false, not, ◌&&◌, ◌||◌, ◌==◌, nat_lt, nat_le, min, bit_and, bit_or, if◌then◌else◌}
use Rattle.gfxspec.specs.declared.pixel.DepthStencil.{DepthStencil}
use Rattle.gfxspec.specs.declared.state.Compare.{Compare}
use Rattle.gfxspec.specs.declared.state.Compare.TheVariants.{Never, Less, Equal, LessEqual, Greater, NotEqual, GreaterEqual, Always}
use Rattle.gfxspec.specs.declared.state.StencilOp.{StencilOp}
use Rattle.gfxspec.specs.declared.state.StencilOp.TheVariants.{Keep, Zero, Replace, IncrSat, DecrSat, Invert, Incr, Decr}

-- a new value, on the left, against a stored one
abbrev pub compares : Compare → ℕ → ℕ → Bool
compares Never a b = false
compares Less a b = nat_lt a b
compares Equal a b = a == b
compares LessEqual a b = nat_le a b
compares Greater a b = nat_lt b a
compares NotEqual a b = not (a == b)
compares GreaterEqual a b = nat_le b a
compares Always a b = true

-- what an operation makes of the stored value, by the reference
abbrev pub stencil_result : StencilOp → ℕ → ℕ → ℕ
stencil_result Keep stored reference = stored
stencil_result Zero stored reference = 0
stencil_result Replace stored reference = reference
stencil_result IncrSat stored reference = min (stored + 1) 255
stencil_result DecrSat stored reference = stored - 1
stencil_result Invert stored reference = 255 - stored
stencil_result Incr stored reference = (stored + 1) % 256
stencil_result Decr stored reference = (stored + 255) % 256

-- the bits of the new byte where the mask has one, and else of the old
abbrev pub masked : ℕ → ℕ → ℕ → ℕ
masked mask new old = bit_or (bit_and new mask) (bit_and old (255 - mask))

pub record FaceSetting : Type 0 where
  pub fail : StencilOp
  pub depth_fail : StencilOp
  pub pass : StencilOp
  pub func : Compare

pub record DepthStencilSetting : Type 0 where
  pub depth : Bool
  pub write : Bool
  pub func : Compare
  pub stencil : Bool
  pub read_mask : ℕ
  pub write_mask : ℕ
  pub front : FaceSetting
  pub back : FaceSetting

-- a disabled test passes
abbrev pub stencil_passes : DepthStencilSetting → FaceSetting → ℕ → ℕ → Bool
stencil_passes s face reference stored =
    not s.stencil || compares face.func (bit_and reference s.read_mask) (bit_and stored s.read_mask)

abbrev pub depth_passes : DepthStencilSetting → ℕ → ℕ → Bool
depth_passes s new stored = not s.depth || compares s.func new stored

-- the operation, by the outcome of the stencil test and of the depth test
abbrev pub chosen_op : FaceSetting → Bool → Bool → StencilOp
chosen_op face false depth = face.fail
chosen_op face true false = face.depth_fail
chosen_op face true true = face.pass

pub record TestOutcome : Type 0 where
  pub after : DepthStencil
  pub passed : Bool

-- both tests at one pixel, of a new depth against what is stored
abbrev pub tested : DepthStencilSetting → FaceSetting → ℕ → ℕ → DepthStencil → TestOutcome
tested s face reference new old =
    let stencil_ok = stencil_passes s face reference old.stencil in
    let depth_ok = depth_passes s new old.depth in
    record {
      after = record {
        depth = if stencil_ok && depth_ok && s.depth && s.write then new else old.depth;
        stencil = if s.stencil then masked s.write_mask (stencil_result (chosen_op face stencil_ok depth_ok) old.stencil reference) old.stencil else old.stencil;
      };
      passed = stencil_ok && depth_ok;
    }
