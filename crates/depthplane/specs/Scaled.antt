-- Numbers times 2^32, divided by another, of which multiples of 2^64 are left out. Each may be too great, by so many times 2^-32.
use Rattle.std.specs.Prelude.{◌≡◌, ℕ, ℤ, pos, ◌+◌, ◌*◌, ◌%◌, ◌<◌, ◌≤◌, ◌-ℤ◌, ◌*ℤ◌, ◌≤ℤ◌, IsTrue, unsigned_abs}
use Rattle.std.specs.Int.{int_rem_euclid}
use Rattle.depthplane.specs.declared.height.Linear.{Linear}
use Rattle.depthplane.specs.declared.scaled.Scaled.{Scaled}
use Rattle.depthplane.specs.declared.start.Start.{Start}
use Rattle.depthplane.specs.Linear.{rises, value_at}

-- v is n divided by the divisor, and at most `excess` 2^32nds more
pub record IsScaled (n divisor : ℤ) (excess v : ℕ) : Type 0 where
  pub close : int_rem_euclid (pos v *ℤ divisor -ℤ pos 4294967296 *ℤ n) (pos 18446744073709551616 *ℤ divisor) ≤ℤ (divisor *ℤ pos excess)

-- a pixel to the right or down changes the number, divided, by no more than 2^24
pub record IsGentle (f : Linear) (divisor : ℤ) : Type 0 where
  pub right : unsigned_abs f.step_x ≤ 16777216 * unsigned_abs divisor
  pub down : unsigned_abs f.step_y ≤ 16777216 * unsigned_abs divisor

-- the value at pixel (x, y), but for multiples of 2^64
abbrev pub scaled_at : Scaled → ℕ → ℕ → ℕ
scaled_at s x y = (s.origin + s.right * x + s.down * y) % 18446744073709551616

-- a linear number, scaled from where a triangle begins, with what its steps do, and whether so many of them are sure
pub record IsScaledLinear (f : Linear) (divisor : ℤ) (start : Start) (s : Scaled) : Type 0 where
  pub error : s.error ≤ 1
  pub begins : IsScaled (value_at f start.left start.top) divisor s.error (scaled_at s start.left start.top)
  pub right : IsScaled f.step_x divisor s.error s.right
  pub down : IsScaled f.step_y divisor s.error s.down
  pub rises_right : s.rises_right ≡ rises f.step_x
  pub rises_down : s.rises_down ≡ rises f.step_y
  pub sure : IsTrue s.sure → unsigned_abs divisor * (s.error * (1 + start.steps)) < 4294967296
  pub gentle : IsTrue s.gentle → IsGentle f divisor

-- by how much the value may be too great x pixels to the right of where the triangle begins and y down
abbrev pub excess_at : ℕ → ℕ → ℕ → ℕ
excess_at error x y = error * (1 + x + y)
