-- Packed colours: red in the low byte, alpha in the high one.
use Rattle.std.specs.Prelude.{ℕ, ◌≡◌, ◌<◌, ◌^◌, bit_and, bit_xor}
use Rattle.std.specs.Int.{from_le_bytes, to_le_bytes, w32}
use Rattle.gfxspec.specs.Color.{BlendSetting, written_color}
use Rattle.logicop.specs.declared.color_write.ColorWrite.{ColorWrite}

-- what a blend state writes, packed, of a packed source over a packed stored colour
unfoldable pub written_packed : BlendSetting → ℕ → ℕ → ℕ
written_packed b source stored = from_le_bytes w32 (written_color b (to_le_bytes w32 source) (to_le_bytes w32 stored))

-- a write does to each stored colour what the blend state does with the source
pub record Writes (write : ColorWrite) (b : BlendSetting) (source : ℕ) : Type 0 where
  pub gives : (stored : ℕ) → stored < 2 ^ 32 → bit_xor (bit_and stored write.keep) write.flip ≡ written_packed b source stored
