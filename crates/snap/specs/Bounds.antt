-- How large the numbers of an edge are where corners lie within 4,096 pixels of the origin (this project's own limits).
use Rattle.std.specs.Prelude.{ℕ, ◌^◌}

-- the difference of two corners along an axis, in 1/256 of a pixel
abbrev pub difference_bound : ℕ
difference_bound = 2 ^ 21

-- twice the area of three corners, in 1/65,536 of a square pixel
abbrev pub area_bound : ℕ
area_bound = 2 ^ 43

-- what one pixel to the right or down adds to twice an area
abbrev pub step_bound : ℕ
step_bound = 2 ^ 29
