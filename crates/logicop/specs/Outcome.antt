-- Logic operations on all bits of a source at once (Direct3D 11.3 Functional Specification, "Output Merger Stage": logic operations).
use Rattle.std.specs.Prelude.{ℕ, zero, suc, ◌-◌, ◌*◌, ◌^◌, [], ◌∷◌}
use Rattle.std.specs.Int.{from_le_bytes, w32}
use Rattle.gfxspec.specs.declared.state.LogicOp.{LogicOp}
use Rattle.gfxspec.specs.Color.{logic_bit}
use Rattle.states.specs.declared.color_mask.ColorMask.{ColorMask}
use Rattle.states.specs.ColorMask.{flag_bit}

-- the packed colour with the first bit where the source has 0, and the second where it has 1
abbrev pub by_source : ℕ → ℕ → ℕ → ℕ
by_source zero zero source = 0
by_source zero (suc _) source = source
by_source (suc _) zero source = 2 ^ 32 - 1 - source
by_source (suc _) (suc _) source = 2 ^ 32 - 1

-- what the operation gives where the stored bit is this one
abbrev pub outcome : LogicOp → ℕ → ℕ → ℕ
outcome op stored source = by_source (logic_bit op 0 stored) (logic_bit op 1 stored) source

-- all bits of the channels of a mask
abbrev pub channel_word : ColorMask → ℕ
channel_word mask =
    from_le_bytes w32 (255 * flag_bit mask.red ∷ 255 * flag_bit mask.green ∷ 255 * flag_bit mask.blue ∷ 255 * flag_bit mask.alpha ∷ [])
