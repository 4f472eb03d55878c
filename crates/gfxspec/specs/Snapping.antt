-- Snapping of coordinates to the rasterizer's grid of 1/256 pixel (Direct3D 11.3 Functional Specification, "Rasterization Rules", coordinate snapping; the way of ties is this project's own).
use Rattle.std.specs.Prelude.{◌≡◌, ℕ, suc, ◌≤◌, ◌+◌, ◌/◌, ◌%◌, ℤ, pos, negsuc, neg_ℤ, ◌-ℤ◌, ◌*ℤ◌, unsigned_abs, nat_lt, if◌then◌else◌}

-- a vertex coordinate, in 1/65,536 pixel
abbrev pub IsCoordinate : ℤ → Type 0
IsCoordinate v = unsigned_abs v ≤ 268435456

-- a snapped coordinate, in 1/256 pixel
abbrev pub IsGridPlace : ℤ → Type 0
IsGridPlace s = unsigned_abs s ≤ 1048576

-- s is even
abbrev pub IsEven : ℤ → Type 0
IsEven s = (h : ℤ) × (s ≡ pos 2 *ℤ h)

-- how far the grid place s is from the coordinate v, in 1/65,536 pixel
abbrev pub distance : ℤ → ℤ → ℕ
distance v s = unsigned_abs (pos 256 *ℤ s -ℤ v)

-- the grid place s is the nearest to v, and of two that are equally near the even one
pub record SnapsTo (v s : ℤ) : Type 0 where
  pub nearest : distance v s ≤ 128
  pub tie : distance v s ≡ 128 → IsEven s

-- n / 256, rounded to the nearest number, and halfway to the even one
abbrev pub rounded : ℕ → ℕ
rounded n =
    if nat_lt (n % 256) 128 then n / 256 else (if nat_lt 128 (n % 256) then n / 256 + 1 else n / 256 + n / 256 % 2)

-- the grid place of v: what `SnapsTo` says, as a function
abbrev pub snapped : ℤ → ℤ
snapped (pos n) = pos (rounded n)
snapped (negsuc n) = neg_ℤ (pos (rounded (suc n)))
