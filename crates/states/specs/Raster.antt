-- A rasterizer state's description, as the setting of a context (Direct3D 11.3 Functional Specification, "Rasterizer Stage").
use Rattle.gfxspec.specs.State.{RasterSetting}
use Rattle.states.specs.declared.raster.RasterDesc.{RasterDesc}

abbrev pub raster_setting : RasterDesc → RasterSetting
raster_setting desc = record { cull = desc.cull; front_ccw = desc.front_ccw; scissor = desc.scissor; depth_bias = desc.depth_bias }

-- the description that a setting came from
abbrev pub raster_desc : RasterSetting → RasterDesc
raster_desc setting = record { cull = setting.cull; front_ccw = setting.front_ccw; scissor = setting.scissor; depth_bias = setting.depth_bias }
