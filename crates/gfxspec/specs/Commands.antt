-- The commands of a list (Microsoft Learn, ID3D11DeviceContext: the calls that record).
use Rattle.std.specs.Prelude.{ℕ, ℤ, Bool, List, Option}
use Rattle.gfxspec.specs.declared.geometry.Vertex.{Vertex}
use Rattle.gfxspec.specs.declared.geometry.PixelRect.{PixelRect}
use Rattle.gfxspec.specs.declared.state.Topology.{Topology}
use Rattle.gfxspec.specs.DepthStencil.{DepthStencilSetting}
use Rattle.gfxspec.specs.Color.{BlendSetting}
use Rattle.gfxspec.specs.State.{RasterSetting, Settings}

-- `SetPredication` has a query and a value, or clears the predicate. `Kept` sets all eight kinds: the state that a finish keeps for the next list.
pub data Command : Type 0 where
  SetVertices : (vertices : List Vertex) → Command
  SetIndices : (indices : List ℕ) → Command
  SetTopology : (topology : Topology) → Command
  SetRaster : (raster : RasterSetting) → Command
  SetScissor : (scissor : PixelRect) → Command
  SetDepthStencil : (depth_stencil : DepthStencilSetting) (reference : ℕ) → Command
  SetBlend : (blend : BlendSetting) → Command
  SetPredication : (predicate : Option (ℕ × Bool)) → Command
  Draw : (count start : ℕ) → Command
  DrawIndexed : (count start : ℕ) (base : ℤ) → Command
  ClearColor : (rgba : List ℕ) → Command
  ClearDepthStencil : (depth stencil : ℕ) → Command
  Begin : (query : ℕ) → Command
  End : (query : ℕ) → Command
  Kept : (settings : Settings) → Command
