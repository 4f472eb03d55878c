-- The numbers of the choices that states are made of (Direct3D 11 headers: D3D11_CULL_MODE, D3D11_PRIMITIVE_TOPOLOGY, D3D11_COMPARISON_FUNC, D3D11_STENCIL_OP, D3D11_LOGIC_OP).
use Rattle.std.specs.Prelude.{ℕ}
use Rattle.gfxspec.specs.declared.state.Cull.{Cull}
use Rattle.gfxspec.specs.declared.state.Cull.TheVariants as C
use Rattle.gfxspec.specs.declared.state.Topology.{Topology}
use Rattle.gfxspec.specs.declared.state.Topology.TheVariants.{TriangleList, TriangleStrip}
use Rattle.gfxspec.specs.declared.state.Compare.{Compare}
use Rattle.gfxspec.specs.declared.state.Compare.TheVariants.{Never, Less, Equal, LessEqual, Greater, NotEqual, GreaterEqual, Always}
use Rattle.gfxspec.specs.declared.state.StencilOp.{StencilOp}
use Rattle.gfxspec.specs.declared.state.StencilOp.TheVariants.{Keep, Zero, Replace, IncrSat, DecrSat, Invert, Incr, Decr}
use Rattle.gfxspec.specs.declared.state.LogicOp.{LogicOp}
use Rattle.gfxspec.specs.declared.state.LogicOp.TheVariants as L

abbrev pub cull_number : Cull → ℕ
cull_number C.None = 1
cull_number C.Front = 2
cull_number C.Back = 3

abbrev pub topology_number : Topology → ℕ
topology_number TriangleList = 4
topology_number TriangleStrip = 5

abbrev pub compare_number : Compare → ℕ
compare_number Never = 1
compare_number Less = 2
compare_number Equal = 3
compare_number LessEqual = 4
compare_number Greater = 5
compare_number NotEqual = 6
compare_number GreaterEqual = 7
compare_number Always = 8

abbrev pub stencil_op_number : StencilOp → ℕ
stencil_op_number Keep = 1
stencil_op_number Zero = 2
stencil_op_number Replace = 3
stencil_op_number IncrSat = 4
stencil_op_number DecrSat = 5
stencil_op_number Invert = 6
stencil_op_number Incr = 7
stencil_op_number Decr = 8

abbrev pub logic_op_number : LogicOp → ℕ
logic_op_number L.Clear = 0
logic_op_number L.Set = 1
logic_op_number L.Copy = 2
logic_op_number L.CopyInverted = 3
logic_op_number L.Noop = 4
logic_op_number L.Invert = 5
logic_op_number L.And = 6
logic_op_number L.Nand = 7
logic_op_number L.Or = 8
logic_op_number L.Nor = 9
logic_op_number L.Xor = 10
logic_op_number L.Equiv = 11
logic_op_number L.AndReverse = 12
logic_op_number L.AndInverted = 13
logic_op_number L.OrReverse = 14
logic_op_number L.OrInverted = 15
