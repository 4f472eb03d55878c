-- A depth that may be one too great.
use Rattle.std.specs.Prelude.{ℕ, ℤ, pos, ◌+◌, ◌%◌, ◌*ℤ◌, int_lt, if◌then◌else◌}

-- the depth, or the one below it, by the height that is divided by the area
abbrev pub mended_by : ℤ → ℤ → ℕ → ℕ
mended_by height area depth = if int_lt height (pos depth *ℤ area) then (depth + 4294967295) % 4294967296 else depth
