-- The least and the greatest depth of a triangle at the four corner pixels of a rectangle.
use Rattle.std.specs.Prelude.{ℕ, ◌+◌, ◌-◌, ◌/◌, ◌%◌, min, max, Bool, if◌then◌else◌}
use Rattle.gfxspec.specs.declared.geometry.PixelRect.{PixelRect}
use Rattle.depthplane.specs.Height.{DeepTriangle}
use Rattle.depthplane.specs.Place.{depth_of}

abbrev pub least_corner : DeepTriangle → PixelRect → ℕ
least_corner d r =
    min
    (min (depth_of d r.left r.top) (depth_of d (r.right - 1) r.top))
    (min (depth_of d r.left (r.bottom - 1)) (depth_of d (r.right - 1) (r.bottom - 1)))

abbrev pub greatest_corner : DeepTriangle → PixelRect → ℕ
greatest_corner d r =
    max
    (max (depth_of d r.left r.top) (depth_of d (r.right - 1) r.top))
    (max (depth_of d r.left (r.bottom - 1)) (depth_of d (r.right - 1) (r.bottom - 1)))

-- of the first and the last place of a line, the one where a number that rises along it, or else falls, is least, and the one where it is greatest
abbrev pub near_end : Bool → ℕ → ℕ → ℕ
near_end rises first last = if rises then first else last

abbrev pub far_end : Bool → ℕ → ℕ → ℕ
far_end rises first last = if rises then last else first

-- the depth of a value in 2^32nds, kept in 64 bits, that may lie below 0, or the end of the range of depths that it passes: at least, and at most: the value may be too great or too small by 16,384 parts
abbrev pub depth_below : ℕ → ℕ
depth_below v = min (((v + 9223372036854792192) % 18446744073709551616 - 32768) / 4294967296 - 2147483648) 16777215

abbrev pub depth_above : ℕ → ℕ
depth_above v = min ((v + 9223372036854792192) % 18446744073709551616 / 4294967296 - 2147483648) 16777215
