-- Commands and settings of the code, as the definitions have them.
use Rattle.gfxspec.specs.State.{Settings}
use Rattle.gfxspec.specs.Commands.{Command, SetVertices, SetIndices, SetTopology, SetRaster, SetScissor, SetDepthStencil, SetBlend, SetPredication, Draw, DrawIndexed, ClearColor, ClearDepthStencil, Begin, End, Kept}
use Rattle.command.specs.declared.settings.Settings as owned
use Rattle.command.specs.declared.settings.State as lent
use Rattle.command.specs.declared.command.Command as recorded
use Rattle.command.specs.declared.command.Command.TheVariants as code

abbrev pub settings_value : {A : Type 0} → owned.Settings A → Settings
settings_value s =
    record {
      vertices = s.vertices;
      indices = s.indices;
      topology = s.topology;
      raster = s.raster;
      scissor = s.scissor;
      depth_stencil = s.depth_stencil;
      reference = s.reference;
      blend = s.blend;
      predicate = s.predicate;
    }

abbrev pub state_value : lent.State → Settings
state_value s =
    record {
      vertices = s.vertices.now;
      indices = s.indices.now;
      topology = s.topology;
      raster = s.raster;
      scissor = s.scissor;
      depth_stencil = s.depth_stencil;
      reference = s.reference;
      blend = s.blend;
      predicate = s.predicate;
    }

abbrev pub command_value : {A : Type 0} → recorded.Command A → Command
command_value (code.SetVertices vertices) = SetVertices vertices
command_value (code.SetIndices indices) = SetIndices indices
command_value (code.SetTopology topology) = SetTopology topology
command_value (code.SetRaster raster) = SetRaster raster
command_value (code.SetScissor scissor) = SetScissor scissor
command_value (code.SetDepthStencil depth_stencil reference) = SetDepthStencil depth_stencil reference
command_value (code.SetBlend blend) = SetBlend blend
command_value (code.SetPredication predicate) = SetPredication predicate
command_value (code.Draw count start) = Draw count start
command_value (code.DrawIndexed count start base) = DrawIndexed count start base
command_value (code.ClearColor rgba) = ClearColor rgba
command_value (code.ClearDepthStencil depth stencil) = ClearDepthStencil depth stencil
command_value (code.Begin query) = Begin query
command_value (code.End query) = End query
command_value (code.Kept settings) = Kept (settings_value settings.value)
