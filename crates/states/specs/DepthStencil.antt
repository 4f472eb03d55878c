-- A depth-stencil state's description, as the setting of a context (Direct3D 11.3 Functional Specification, "Output Merger Stage": depth and stencil state).
use Rattle.gfxspec.specs.DepthStencil.{FaceSetting, DepthStencilSetting}
use Rattle.states.specs.declared.depth_stencil.Face.{Face}
use Rattle.states.specs.declared.depth_stencil.DepthStencilDesc.{DepthStencilDesc}

abbrev pub face_setting : Face → FaceSetting
face_setting face = record { fail = face.fail; depth_fail = face.depth_fail; pass = face.pass; func = face.func }

-- the face that a setting came from
abbrev pub face_of : FaceSetting → Face
face_of setting = record { fail = setting.fail; depth_fail = setting.depth_fail; pass = setting.pass; func = setting.func }

abbrev pub depth_stencil_setting : DepthStencilDesc → DepthStencilSetting
depth_stencil_setting desc =
    record {
      depth = desc.depth;
      write = desc.write;
      func = desc.func;
      stencil = desc.stencil;
      read_mask = desc.read_mask;
      write_mask = desc.write_mask;
      front = face_setting desc.front;
      back = face_setting desc.back;
    }

-- the description that a setting came from
abbrev pub depth_stencil_desc : DepthStencilSetting → DepthStencilDesc
depth_stencil_desc setting =
    record {
      depth = setting.depth;
      write = setting.write;
      func = setting.func;
      stencil = setting.stencil;
      read_mask = setting.read_mask;
      write_mask = setting.write_mask;
      front = face_of setting.front;
      back = face_of setting.back;
    }
