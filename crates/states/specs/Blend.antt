-- A blend state's description, as the setting of a context (Direct3D 11.3 Functional Specification, "Output Merger Stage": logic operations, render target write mask).
use Rattle.std.specs.Prelude.{◌≡◌}
use Rattle.gfxspec.specs.Color.{BlendSetting}
use Rattle.states.specs.declared.blend.BlendDesc.{BlendDesc}
use Rattle.states.specs.ColorMask.{mask_bits, mask_of}
use Rattle.states.specs.MaskLaws.{mask_of-mask_bits}

abbrev pub blend_setting : BlendDesc → BlendSetting
blend_setting desc = record { logic = desc.logic; op = desc.op; mask = mask_bits desc.mask }

-- the description that a setting came from
abbrev pub blend_desc : BlendSetting → BlendDesc
blend_desc setting = record { logic = setting.logic; op = setting.op; mask = mask_of setting.mask }

pub blend_desc-blend_setting : (desc : BlendDesc) → blend_desc (blend_setting desc) ≡ desc
blend_desc-blend_setting desc i = record { logic = desc.logic; op = desc.op; mask = mask_of-mask_bits desc.mask i }
