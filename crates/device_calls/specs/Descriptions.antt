-- States as C describes them, and what is described, if anything is: choices have the numbers of the Direct3D 11 headers (Microsoft Learn, D3D11_CULL_MODE, D3D11_PRIMITIVE_TOPOLOGY, D3D11_COMPARISON_FUNC, D3D11_STENCIL_OP, D3D11_LOGIC_OP, D3D11_COLOR_WRITE_ENABLE).
use Rattle.std.specs.Prelude.{ℕ, ◌==◌, nat_lt, not, Bool, [], ◌∷◌, find, Option, Some, None, if◌then◌else◌}
use Rattle.gfxspec.specs.Numbers.{cull_number, topology_number, compare_number, stencil_op_number, logic_op_number}
use Rattle.gfxspec.specs.State.{RasterSetting}
use Rattle.gfxspec.specs.DepthStencil.{DepthStencilSetting}
use Rattle.gfxspec.specs.Color.{BlendSetting}
use Rattle.states.specs.DepthStencil.{face_setting}
use Rattle.states.specs.declared.depth_stencil.Face.{Face}
use Rattle.device_calls.specs.declared.descriptions.RasterDescription.{RasterDescription}
use Rattle.device_calls.specs.declared.descriptions.FaceDescription.{FaceDescription}
use Rattle.device_calls.specs.declared.descriptions.DepthStencilDescription.{DepthStencilDescription}
use Rattle.device_calls.specs.declared.descriptions.BlendDescription.{BlendDescription}
use Rattle.gfxspec.specs.declared.state.Cull.{Cull}
use Rattle.gfxspec.specs.declared.state.Cull.TheVariants as Cu
use Rattle.gfxspec.specs.declared.state.Topology.{Topology}
use Rattle.gfxspec.specs.declared.state.Topology.TheVariants as To
use Rattle.gfxspec.specs.declared.state.Compare.{Compare}
use Rattle.gfxspec.specs.declared.state.Compare.TheVariants as Co
use Rattle.gfxspec.specs.declared.state.StencilOp.{StencilOp}
use Rattle.gfxspec.specs.declared.state.StencilOp.TheVariants as St
use Rattle.gfxspec.specs.declared.state.LogicOp.{LogicOp}
use Rattle.gfxspec.specs.declared.state.LogicOp.TheVariants as Lo

-- the choice that has this number, if there is one
abbrev pub cull_numbered : ℕ → Option Cull
cull_numbered n = find (λ x. cull_number x == n) (Cu.None ∷ Cu.Front ∷ Cu.Back ∷ [])

abbrev pub topology_numbered : ℕ → Option Topology
topology_numbered n = find (λ x. topology_number x == n) (To.TriangleList ∷ To.TriangleStrip ∷ [])

abbrev pub compare_numbered : ℕ → Option Compare
compare_numbered n = find (λ x. compare_number x == n) (Co.Never ∷ Co.Less ∷ Co.Equal ∷ Co.LessEqual ∷ Co.Greater ∷ Co.NotEqual ∷ Co.GreaterEqual ∷ Co.Always ∷ [])

abbrev pub stencil_op_numbered : ℕ → Option StencilOp
stencil_op_numbered n = find (λ x. stencil_op_number x == n) (St.Keep ∷ St.Zero ∷ St.Replace ∷ St.IncrSat ∷ St.DecrSat ∷ St.Invert ∷ St.Incr ∷ St.Decr ∷ [])

abbrev pub logic_op_numbered : ℕ → Option LogicOp
logic_op_numbered n =
    find (λ x. logic_op_number x == n)
    (Lo.Clear ∷ Lo.Set ∷ Lo.Copy ∷ Lo.CopyInverted ∷ Lo.Noop ∷ Lo.Invert ∷ Lo.And ∷ Lo.Nand ∷ Lo.Or ∷ Lo.Nor ∷ Lo.Xor ∷ Lo.Equiv ∷ Lo.AndReverse ∷ Lo.AndInverted ∷ Lo.OrReverse ∷ Lo.OrInverted ∷ [])

-- a switch is on but at 0
abbrev pub switched : ℕ → Bool
switched n = not (n == 0)

abbrev pub raster_by : RasterDescription → Option Cull → Option RasterSetting
raster_by d None = None
raster_by d (Some cull) =
    Some (record { cull = cull; front_ccw = switched d.front_ccw; scissor = switched d.scissor; depth_bias = d.depth_bias })

abbrev pub raster_described : RasterDescription → Option RasterSetting
raster_described d = raster_by d (cull_numbered d.cull)

abbrev pub face_by : Option StencilOp → Option StencilOp → Option StencilOp → Option Compare → Option Face
face_by (Some fail) (Some depth_fail) (Some pass) (Some func) = Some (record { fail = fail; depth_fail = depth_fail; pass = pass; func = func })
face_by _ _ _ _ = None

abbrev pub face_described : FaceDescription → Option Face
face_described d = face_by (stencil_op_numbered d.fail) (stencil_op_numbered d.depth_fail) (stencil_op_numbered d.pass) (compare_numbered d.compare)

abbrev pub depth_stencil_by : DepthStencilDescription → Option Compare → Option Face → Option Face → Option DepthStencilSetting
depth_stencil_by d (Some func) (Some front) (Some back) =
    Some (record {
      depth = switched d.depth;
      write = switched d.write;
      func = func;
      stencil = switched d.stencil;
      read_mask = d.read_mask;
      write_mask = d.write_mask;
      front = face_setting front;
      back = face_setting back;
    })
depth_stencil_by d _ _ _ = None

abbrev pub depth_stencil_described : DepthStencilDescription → Option DepthStencilSetting
depth_stencil_described d = depth_stencil_by d (compare_numbered d.compare) (face_described d.front) (face_described d.back)

abbrev pub blend_by : BlendDescription → Option LogicOp → Option BlendSetting
blend_by d None = None
blend_by d (Some op) = if nat_lt d.mask 16 then Some (record { logic = switched d.logic; op = op; mask = d.mask }) else None

abbrev pub blend_described : BlendDescription → Option BlendSetting
blend_described d = blend_by d (logic_op_numbered d.op)
