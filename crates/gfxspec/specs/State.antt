-- The state of a context: eight kinds, and their defaults (Microsoft Learn, "Introduction to a Device in Direct3D 11": deferred contexts; Direct3D 11.3 Functional Specification, "Input Assembler Stage", "Rasterizer Stage", "Output Merger Stage": state objects and their defaults; Microsoft Learn, ID3D11DeviceContext::SetPredication).
use Rattle.std.specs.Prelude.{ℕ, ℤ, pos, Bool, true, false, List, [], Option, None}
use Rattle.gfxspec.specs.declared.geometry.Vertex.{Vertex}
use Rattle.gfxspec.specs.declared.geometry.PixelRect.{PixelRect}
use Rattle.gfxspec.specs.declared.state.Cull.{Cull}
use Rattle.gfxspec.specs.declared.state.Cull.TheVariants as C
use Rattle.gfxspec.specs.declared.state.Topology.{Topology}
use Rattle.gfxspec.specs.declared.state.Compare.TheVariants.{Less, Always}
use Rattle.gfxspec.specs.declared.state.StencilOp.TheVariants.{Keep}
use Rattle.gfxspec.specs.declared.state.LogicOp.TheVariants.{Noop}
use Rattle.gfxspec.specs.DepthStencil.{FaceSetting, DepthStencilSetting}
use Rattle.gfxspec.specs.Color.{BlendSetting}

-- the rasterizer state; fill is always solid, and the bias is in units of depth
pub record RasterSetting : Type 0 where
  pub cull : Cull
  pub front_ccw : Bool
  pub scissor : Bool
  pub depth_bias : ℤ

-- vertices, indices, topology, rasterizer state, scissor rectangle, depth-stencil state with its reference, blend state, and the predicate: a query and a value
pub record Settings : Type 0 where
  pub vertices : List Vertex
  pub indices : List ℕ
  pub topology : Option Topology
  pub raster : RasterSetting
  pub scissor : PixelRect
  pub depth_stencil : DepthStencilSetting
  pub reference : ℕ
  pub blend : BlendSetting
  pub predicate : Option (ℕ × Bool)

abbrev pub default_raster : RasterSetting
default_raster = record { cull = C.Back; front_ccw = false; scissor = false; depth_bias = pos 0 }

abbrev pub default_scissor : PixelRect
default_scissor = record { left = 0; top = 0; right = 0; bottom = 0 }

abbrev pub default_face : FaceSetting
default_face = record { fail = Keep; depth_fail = Keep; pass = Keep; func = Always }

abbrev pub default_depth_stencil : DepthStencilSetting
default_depth_stencil =
    record {
      depth = true;
      write = true;
      func = Less;
      stencil = false;
      read_mask = 255;
      write_mask = 255;
      front = default_face;
      back = default_face;
    }

abbrev pub default_blend : BlendSetting
default_blend = record { logic = false; op = Noop; mask = 15 }

-- The topology is undefined until it is set, and there is no predicate.
abbrev pub defaults : Settings
defaults =
    record {
      vertices = [];
      indices = [];
      topology = None;
      raster = default_raster;
      scissor = default_scissor;
      depth_stencil = default_depth_stencil;
      reference = 0;
      blend = default_blend;
      predicate = None;
    }
