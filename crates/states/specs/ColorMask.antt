-- A set of channels as a number (Direct3D 11.3 Functional Specification, "Output Merger Stage": render target write mask).
use Rattle.std.specs.Prelude.{ℕ, ◌+◌, ◌*◌, ◌==◌, Bool, if◌then◌else◌}
use Rattle.std.specs.Int.{bit_at}
use Rattle.states.specs.declared.color_mask.ColorMask.{ColorMask}

-- 1 where a flag is set
abbrev pub flag_bit : Bool → ℕ
flag_bit set = if set then 1 else 0

-- red is bit 0, green 1, blue 2, alpha 3
abbrev pub mask_bits : ColorMask → ℕ
mask_bits mask = flag_bit mask.red + 2 * flag_bit mask.green + 4 * flag_bit mask.blue + 8 * flag_bit mask.alpha

-- the set that a number's lowest four bits are
abbrev pub mask_of : ℕ → ColorMask
mask_of bits =
    record {
      red = bit_at bits 0 == 1;
      green = bit_at bits 1 == 1;
      blue = bit_at bits 2 == 1;
      alpha = bit_at bits 3 == 1;
    }
