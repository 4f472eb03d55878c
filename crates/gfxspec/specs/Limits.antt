-- What may be asked of a target (this project's own limits).
use Rattle.std.specs.Prelude.{ℕ, nat_lt, nat_le, Bool, ◌&&◌}
use Rattle.gfxspec.specs.declared.TheConstants.{SIDE_LIMIT}
use Rattle.gfxspec.specs.declared.geometry.Size.{Size}

-- a side of a target, in pixels
abbrev pub is_side : ℕ → Bool
is_side n = nat_lt 0 n && nat_le n SIDE_LIMIT

abbrev pub is_size : Size → Bool
is_size s = is_side s.width && is_side s.height

-- how far from the upper left tiles, edges and depths are made for, in pixels: no target is larger
abbrev pub side_bound : ℕ
side_bound = 4096

-- how far a walk over edges or depths may step: twice as far
abbrev pub walk_bound : ℕ
walk_bound = 8192
