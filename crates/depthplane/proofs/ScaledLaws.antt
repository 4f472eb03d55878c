-- Sums of scaled numbers, and what they say about the number itself.
use Rattle.std.proofs.Common.{◌≡◌, ◌∙◌, ap, sym, refl, arith, ℕ, zero, suc, ◌+◌, ◌-◌, ◌*◌, ◌/◌, ◌%◌, ◌<◌, ◌≤◌, subst, [], ◌∷◌, get_or}
use Rattle.std.specs.Prelude.{ℤ, unsigned_abs, pos, negsuc, ◌+ℤ◌, ◌-ℤ◌, ◌*ℤ◌, ◌≤ℤ◌, ◌<ℤ◌}
use Rattle.std.specs.Int.{int_div_euclid, int_rem_euclid}
use Rattle.std.proofs.lemmas.Nat.{div-add-mod', mod_below, div-mul-add}
use Rattle.std.proofs.lemmas.Int.{ints}
use Rattle.std.proofs.Math.Nat.{mul-le-mul_left, mul-le-mul_right, add-mul, mul-add, mul_right_comm}
use Rattle.gfxspec.proofs.Integers.{spread, mul_assoc, mul_left_comm}
use Rattle.depthplane.specs.declared.division.Divided.{Divided}
use Rattle.depthplane.specs.declared.height.Linear.{Linear}
use Rattle.depthplane.specs.declared.scaled.Scaled.{Scaled}
use Rattle.depthplane.specs.declared.start.Start.{Start}
use Rattle.depthplane.specs.Division.{IsDivision, IsDivisor, IsRest}
use Rattle.depthplane.specs.Linear.{value_at}
use Rattle.depthplane.specs.Scaled.{IsScaled, IsScaledLinear, excess_at, scaled_at}
use Rattle.depthplane.proofs.DivisionLaws.{splits, only_split}

-- what v is more than the scaled number, in parts of the divisor, and how many multiples of 2^64 it left out
pub record Lies (n divisor : ℤ) (excess v : ℕ) (over turns : ℤ) : Type 0 where
  pub exact : pos v *ℤ divisor ≡ pos 4294967296 *ℤ n +ℤ over +ℤ turns *ℤ (pos 18446744073709551616 *ℤ divisor)
  pub low : pos 0 ≤ℤ over
  pub high : over ≤ℤ (divisor *ℤ pos excess)

whole_positive : (d : ℤ) → pos 0 <ℤ d → pos 0 <ℤ (pos 18446744073709551616 *ℤ d)
whole_positive d p = omega (arith, ints)

pub lies : (n d : ℤ) (e v : ℕ) → pos 0 <ℤ d → IsScaled n d e v → Lies n d e v (int_rem_euclid (pos v *ℤ d -ℤ pos 4294967296 *ℤ n) (pos 18446744073709551616 *ℤ d)) (int_div_euclid (pos v *ℤ d -ℤ pos 4294967296 *ℤ n) (pos 18446744073709551616 *ℤ d))
lies n d e v p h =
    let whole = pos 18446744073709551616 *ℤ d in
    let m = pos v *ℤ d -ℤ pos 4294967296 *ℤ n in
    let s = splits m whole (whole_positive d p) in
    record { exact = by (pos v *ℤ d) (pos 4294967296 *ℤ n) (int_div_euclid m whole *ℤ whole) (int_rem_euclid m whole) s.exact; low = s.rest.low; high = h.close }
  where
    by : (a b t r : ℤ) → a -ℤ b ≡ t +ℤ r → a ≡ b +ℤ r +ℤ t
    by a b t r f = omega (arith, ints)

pub is_scaled : (n d : ℤ) (e v : ℕ) (over turns : ℤ) → pos 0 <ℤ d → e < 18446744073709551616 → Lies n d e v over turns → IsScaled n d e v
is_scaled n d e v over turns p few h =
    let whole = pos 18446744073709551616 *ℤ d in
    let m = pos v *ℤ d -ℤ pos 4294967296 *ℤ n in
    let exact : m ≡ turns *ℤ whole +ℤ over = by (pos v *ℤ d) (pos 4294967296 *ℤ n) (turns *ℤ whole) over h.exact in
    let rest : IsRest whole over = record { low = h.low; high = within d e over p few h.high } in
    let only = only_split m whole turns over (whole_positive d p) (record { exact = exact; rest = rest }) in
    let P : ℤ → Type 0 = λ r. r ≤ℤ (d *ℤ pos e) in
    record { close = subst P (sym only.1) h.high }
  where
    by : (a b t r : ℤ) → a ≡ b +ℤ r +ℤ t → a -ℤ b ≡ t +ℤ r
    by a b t r f = omega (arith, ints)

    within : (d : ℤ) (e : ℕ) (over : ℤ) → pos 0 <ℤ d → e < 18446744073709551616 → over ≤ℤ (d *ℤ pos e) → over <ℤ (pos 18446744073709551616 *ℤ d)
    within (pos d) e over p few h = let q = mul-le-mul_left d few in omega (arith, ints, q)
    within (negsuc d) e over p few h = absurd (omega (arith, ints))

-- what 64 bits keep of a number
pub wraps : (n : ℕ) → pos (n % 18446744073709551616) ≡ pos n -ℤ pos (n / 18446744073709551616) *ℤ pos 18446744073709551616
wraps n = let z = div-add-mod' n 18446744073709551616 in omega (arith, ints, z)

-- the sum of two scaled numbers
total : (n m d v w o p s t c : ℤ) → v *ℤ d ≡ pos 4294967296 *ℤ n +ℤ o +ℤ s *ℤ (pos 18446744073709551616 *ℤ d) → w *ℤ d ≡ pos 4294967296 *ℤ m +ℤ p +ℤ t *ℤ (pos 18446744073709551616 *ℤ d)
    → ((v +ℤ w) -ℤ c *ℤ pos 18446744073709551616) *ℤ d ≡ pos 4294967296 *ℤ (n +ℤ m) +ℤ (o +ℤ p) +ℤ (s +ℤ t -ℤ c) *ℤ (pos 18446744073709551616 *ℤ d)
total n m d v w o p s t c e f = let x = mul_assoc c (pos 18446744073709551616) d in simp spread (omega (arith, ints, e, f, x))

pub sum_scaled : (n m d : ℤ) (e f v w : ℕ) → pos 0 <ℤ d → e + f < 18446744073709551616 → IsScaled n d e v → IsScaled m d f w → IsScaled (n +ℤ m) d (e + f) ((v + w) % 18446744073709551616)
sum_scaled n m d e f v w p few h k =
    let a = lies n d e v p h in
    let b = lies m d f w p k in
    let o = int_rem_euclid (pos v *ℤ d -ℤ pos 4294967296 *ℤ n) (pos 18446744073709551616 *ℤ d) in
    let q = int_rem_euclid (pos w *ℤ d -ℤ pos 4294967296 *ℤ m) (pos 18446744073709551616 *ℤ d) in
    let s = int_div_euclid (pos v *ℤ d -ℤ pos 4294967296 *ℤ n) (pos 18446744073709551616 *ℤ d) in
    let t = int_div_euclid (pos w *ℤ d -ℤ pos 4294967296 *ℤ m) (pos 18446744073709551616 *ℤ d) in
    let c = pos ((v + w) / 18446744073709551616) in
    let a_low = a.low in let a_high = a.high in let b_low = b.low in let b_high = b.high in
    let kept : pos ((v + w) % 18446744073709551616) ≡ (pos v +ℤ pos w) -ℤ c *ℤ pos 18446744073709551616 = wraps (v + w) in
    let exact = ap (λ z. z *ℤ d) kept ∙ total n m d (pos v) (pos w) o q s t c a.exact b.exact in
    is_scaled (n +ℤ m) d (e + f) ((v + w) % 18446744073709551616) (o +ℤ q) (s +ℤ t -ℤ c) p few
    (record { exact = exact; low = omega (arith, ints, a_low, b_low); high = both d o q (pos e) (pos f) a_high b_high })
  where
    both : (d o q e f : ℤ) → o ≤ℤ (d *ℤ e) → q ≤ℤ (d *ℤ f) → (o +ℤ q) ≤ℤ (d *ℤ (e +ℤ f))
    both d o q e f h k = simp spread (omega (arith, ints, h, k))

-- a scaled number so many times
pub times_scaled : (n d : ℤ) (e v k : ℕ) → pos 0 <ℤ d → k * e < 18446744073709551616 → IsScaled n d e v → IsScaled (pos k *ℤ n) d (k * e) ((v * k) % 18446744073709551616)
times_scaled n d e v zero p few h =
    let none = is_scaled (pos 0 *ℤ n) d 0 0 (pos 0) (pos 0) p (omega arith) (record { exact = omega (arith, ints); low = omega (arith, ints); high = omega (arith, ints) }) in
    let P : ℕ → Type 0 = λ x. IsScaled (pos 0 *ℤ n) d x (v * 0 % 18446744073709551616) in
    let Q : ℕ → Type 0 = λ w. IsScaled (pos 0 *ℤ n) d 0 w in
    let no_excess : 0 ≡ 0 * e = omega arith in
    let no_value : 0 ≡ v * 0 % 18446744073709551616 = omega arith in
    subst P no_excess (subst Q no_value none)
times_scaled n d e v (suc k) p few h =
    let before = times_scaled n d e v k p (omega arith) h in
    let sum = sum_scaled (pos k *ℤ n) n d (k * e) e ((v * k) % 18446744073709551616) v p (omega arith) before h in
    let P : ℤ → Type 0 = λ m. IsScaled m d (k * e + e) (((v * k) % 18446744073709551616 + v) % 18446744073709551616) in
    let Q : ℕ → Type 0 = λ x. IsScaled (pos (suc k) *ℤ n) d x (((v * k) % 18446744073709551616 + v) % 18446744073709551616) in
    let R : ℕ → Type 0 = λ w. IsScaled (pos (suc k) *ℤ n) d (suc k * e) w in
    let one_more : pos k *ℤ n +ℤ n ≡ pos (suc k) *ℤ n = omega (arith, ints) in
    let excess : k * e + e ≡ suc k * e = omega arith in
    subst R (wrapped (v * k) v ∙ ap (λ x. x % 18446744073709551616) (product v k)) (subst Q excess (subst P one_more sum))
  where
    wrapped : (a b : ℕ) → (a % 18446744073709551616 + b) % 18446744073709551616 ≡ (a + b) % 18446744073709551616
    wrapped a b = omega arith

    product : (v k : ℕ) → v * k + v ≡ v * suc k
    product v k = omega arith

-- a division, scaled
split_scaled : (n d q r t f c o : ℤ) → n ≡ (t *ℤ pos 4294967296 +ℤ q) *ℤ d +ℤ r → f *ℤ d ≡ pos 4294967296 *ℤ r +ℤ o
    → ((q *ℤ pos 4294967296 +ℤ f) -ℤ c *ℤ pos 18446744073709551616) *ℤ d ≡ pos 4294967296 *ℤ n +ℤ o +ℤ (pos 0 -ℤ c -ℤ t *ℤ pos 1) *ℤ (pos 18446744073709551616 *ℤ d)
split_scaled n d q r t f c o e g =
    let whole = mul_assoc c (pos 18446744073709551616) d in
    let unit = mul_assoc q (pos 4294967296) d ∙ mul_left_comm q (pos 4294967296) d in
    let high = mul_assoc t (pos 4294967296) d ∙ mul_left_comm t (pos 4294967296) d in
    let turns = mul_assoc t (pos 1) (pos 18446744073709551616 *ℤ d) ∙ mul_left_comm t (pos 1) (pos 18446744073709551616 *ℤ d) in
    let turn = mul_left_comm t (pos 18446744073709551616) d in
    rw e (simp spread (omega (arith, ints, g, whole, unit, high, turns, turn)))

pub scaled_division : (n d : ℤ) (a : Divided) (e f : ℕ) (o : ℤ) → pos 0 <ℤ d → e < 18446744073709551616 → IsDivision n d a → pos f *ℤ d ≡ pos 4294967296 *ℤ a.remainder +ℤ o → pos 0 ≤ℤ o → o ≤ℤ (d *ℤ pos e)
    → IsScaled n d e ((a.quotient * 4294967296 % 18446744073709551616 + f) % 18446744073709551616)
scaled_division n d a e f o p few h g low high =
    let q = int_div_euclid n d in
    let s = splits n d p in
    let u = splits q (pos 4294967296) (omega (arith, ints)) in
    let t = int_div_euclid q (pos 4294967296) in
    let v = (a.quotient * 4294967296 % 18446744073709551616 + f) % 18446744073709551616 in
    let c = pos ((a.quotient * 4294967296 + f) / 18446744073709551616) in
    let whole : q ≡ t *ℤ pos 4294967296 +ℤ pos a.quotient = u.exact ∙ ap (λ r. t *ℤ pos 4294967296 +ℤ r) (sym h.quotient) in
    let number : n ≡ (t *ℤ pos 4294967296 +ℤ pos a.quotient) *ℤ d +ℤ a.remainder = s.exact ∙ (λ i. whole i *ℤ d +ℤ sym h.remainder i) in
    let kept : pos v ≡ (pos a.quotient *ℤ pos 4294967296 +ℤ pos f) -ℤ c *ℤ pos 18446744073709551616 = ap pos (wrapped (a.quotient * 4294967296) f) ∙ wraps (a.quotient * 4294967296 + f) in
    is_scaled n d e v o (pos 0 -ℤ c -ℤ t *ℤ pos 1) p few
    (record { exact = ap (λ z. z *ℤ d) kept ∙ split_scaled n d (pos a.quotient) a.remainder t (pos f) c o number g; low = low; high = high })
  where
    wrapped : (a b : ℕ) → (a % 18446744073709551616 + b) % 18446744073709551616 ≡ (a + b) % 18446744073709551616
    wrapped a b = omega arith

-- a division whose rest was rounded up
module _ (f : ℕ) where
  over_low : (d r : ℤ) → pos 0 <ℤ d → pos 0 ≤ℤ r → 4294967296 * unsigned_abs r ≤ f * unsigned_abs d → pos 0 ≤ℤ (pos f *ℤ d -ℤ pos 4294967296 *ℤ r)
  over_low (pos x) (pos y) p q l = omega (arith, ints, l)
  over_low (pos x) (negsuc y) p q l = absurd (omega (arith, ints, q))
  over_low (negsuc x) r p q l = absurd (omega (arith, ints, p))

  over_high : (d r : ℤ) → pos 0 <ℤ d → pos 0 ≤ℤ r → f * unsigned_abs d < 4294967296 * unsigned_abs r + unsigned_abs d → (pos f *ℤ d -ℤ pos 4294967296 *ℤ r) ≤ℤ (d *ℤ pos 1)
  over_high (pos x) (pos y) p q l = omega (arith, ints, l)
  over_high (pos x) (negsuc y) p q l = absurd (omega (arith, ints, q))
  over_high (negsuc x) r p q l = absurd (omega (arith, ints, p))

parts_none : (f : ℕ) (d : ℤ) → pos 0 <ℤ d → f * unsigned_abs d < 4294967296 * 0 + unsigned_abs d → f ≡ 0
parts_none zero d p l = refl
parts_none (suc f) (pos x) p l = absurd (omega (arith, l))
parts_none (suc f) (negsuc x) p l = absurd (omega (arith, ints, p))

again : (a b : ℤ) → a ≡ b +ℤ (a -ℤ b)
again a b = omega (arith, ints)

pub parts_near : (n d : ℤ) (a : Divided) (f : ℕ) → IsDivisor d → IsRest d a.remainder → 4294967296 * unsigned_abs a.remainder ≤ f * unsigned_abs d → f * unsigned_abs d < 4294967296 * unsigned_abs a.remainder + unsigned_abs d → IsDivision n d a
    → IsScaled n d 1 ((a.quotient * 4294967296 % 18446744073709551616 + f) % 18446744073709551616)
parts_near n d a f p r low high h =
    scaled_division n d a 1 f (pos f *ℤ d -ℤ pos 4294967296 *ℤ a.remainder) p.positive (omega arith) h (again (pos f *ℤ d) (pos 4294967296 *ℤ a.remainder))
    (over_low f d a.remainder p.positive r.low low) (over_high f d a.remainder p.positive r.low high)

pub parts_exact : (n d : ℤ) (a : Divided) (f : ℕ) → IsDivisor d → a.remainder ≡ pos 0 → f * unsigned_abs d < 4294967296 * unsigned_abs a.remainder + unsigned_abs d → IsDivision n d a
    → IsScaled n d 0 ((a.quotient * 4294967296 % 18446744073709551616 + f) % 18446744073709551616)
parts_exact n d a f p none high h =
    let positive = p.positive in
    let no_parts = parts_none f d positive (rw none at high) in
    let exact : pos f *ℤ d ≡ pos 4294967296 *ℤ a.remainder +ℤ pos 0 = (λ i. pos (no_parts i) *ℤ d) ∙ omega (arith, ints, none) in
    scaled_division n d a 0 f (pos 0) positive (omega arith) h exact (omega (arith, ints)) (omega (arith, ints))

-- by the error of 0 or 1
pub by_error : (n d : ℤ) (e v : ℕ) → e ≤ 1 → IsScaled n d 1 v → (e ≡ 0 → IsScaled n d 0 v) → IsScaled n d e v
by_error n d zero v l near exact = exact refl
by_error n d (suc zero) v l near exact = near
by_error n d (suc (suc e)) v l near exact = absurd (omega (arith, l))

-- the excess behind some steps
excess_is : (e x y : ℕ) → e ≤ 1 → (e + x * e) + y * e ≡ excess_at e x y
excess_is zero x y l = omega arith
excess_is (suc zero) x y l = omega arith
excess_is (suc (suc e)) x y l = absurd (omega (arith, l))

pub small_times : (e x : ℕ) → e ≤ 1 → x * e ≤ x
small_times zero x l = omega arith
small_times (suc zero) x l = omega arith
small_times (suc (suc e)) x l = absurd (omega (arith, l))

-- the value so many steps to the right and down
steps_add : (a r d x y i j : ℕ) → (((a + r * x + d * y) % 18446744073709551616 + r * i % 18446744073709551616) % 18446744073709551616 + d * j % 18446744073709551616) % 18446744073709551616 ≡ (a + r * (x + i) + d * (y + j)) % 18446744073709551616
steps_add a r d x y i j = let p = mul-add r x i in let q = mul-add d y j in by (r * x) (d * y) (r * i) (d * j) (r * (x + i)) (d * (y + j)) p q
  where
    by : (rx dy ri dj right down : ℕ) → right ≡ rx + ri → down ≡ dy + dj → (((a + rx + dy) % 18446744073709551616 + ri % 18446744073709551616) % 18446744073709551616 + dj % 18446744073709551616) % 18446744073709551616 ≡ (a + right + down) % 18446744073709551616
    by rx dy ri dj right down e f = omega (arith, e, f)

value_steps : (f : Linear) (x y i j : ℕ) → value_at f x y +ℤ pos i *ℤ f.step_x +ℤ pos j *ℤ f.step_y ≡ value_at f (x + i) (y + j)
value_steps f x y i j = by f.origin f.step_x f.step_y
  where
    by : (o s t : ℤ) → (o +ℤ pos x *ℤ s +ℤ pos y *ℤ t) +ℤ pos i *ℤ s +ℤ pos j *ℤ t ≡ o +ℤ pos (x + i) *ℤ s +ℤ pos (y + j) *ℤ t
    by o s t = omega (arith, ints)

at_steps : (f : Linear) (d : ℤ) (start : Start) (s : Scaled) (i j : ℕ) → IsDivisor d → IsScaledLinear f d start s → i < 4294967296 → j < 4294967296
    → IsScaled (value_at f (start.left + i) (start.top + j)) d (excess_at s.error i j) (scaled_at s (start.left + i) (start.top + j))
at_steps f d start s i j p h few_i few_j =
    let e = s.error in
    let l = h.error in
    let first_value = scaled_at s start.left start.top in
    let right_value = s.right * i % 18446744073709551616 in
    let down_value = s.down * j % 18446744073709551616 in
    let si = small_times e i l in
    let sj = small_times e j l in
    let along = times_scaled f.step_x d e s.right i p.positive (omega (arith, si, few_i)) h.right in
    let below = times_scaled f.step_y d e s.down j p.positive (omega (arith, sj, few_j)) h.down in
    let first = sum_scaled (value_at f start.left start.top) (pos i *ℤ f.step_x) d e (i * e) first_value right_value p.positive (omega (arith, si, l, few_i)) h.begins along in
    let both = sum_scaled (value_at f start.left start.top +ℤ pos i *ℤ f.step_x) (pos j *ℤ f.step_y) d (e + i * e) (j * e) ((first_value + right_value) % 18446744073709551616) down_value p.positive (omega (arith, si, sj, l, few_i, few_j)) first below in
    let P : ℕ → Type 0 = λ k. IsScaled (value_at f start.left start.top +ℤ pos i *ℤ f.step_x +ℤ pos j *ℤ f.step_y) d k (((first_value + right_value) % 18446744073709551616 + down_value) % 18446744073709551616) in
    let Q : ℕ → Type 0 = λ v. IsScaled (value_at f start.left start.top +ℤ pos i *ℤ f.step_x +ℤ pos j *ℤ f.step_y) d (excess_at e i j) v in
    let R : ℤ → Type 0 = λ n. IsScaled n d (excess_at e i j) (scaled_at s (start.left + i) (start.top + j)) in
    subst R (value_steps f start.left start.top i j) (subst Q (steps_add s.origin s.right s.down start.left start.top i j) (subst P (excess_is e i j l) both))

-- the value at a pixel from where the triangle begins
pub at_pixel : (f : Linear) (d : ℤ) (start : Start) (s : Scaled) (x y : ℕ) → IsDivisor d → IsScaledLinear f d start s → start.left ≤ x → start.top ≤ y → x < 4294967296 → y < 4294967296
    → IsScaled (value_at f x y) d (excess_at s.error (x - start.left) (y - start.top)) (scaled_at s x y)
at_pixel f d start s x y p h right down few_x few_y =
    let i = x - start.left in
    let j = y - start.top in
    let x_is : start.left + i ≡ x = omega (arith, right) in
    let y_is : start.top + j ≡ y = omega (arith, down) in
    let P : ℕ → Type 0 = λ u. IsScaled (value_at f u (start.top + j)) d (excess_at s.error i j) (scaled_at s u (start.top + j)) in
    let Q : ℕ → Type 0 = λ v. IsScaled (value_at f x v) d (excess_at s.error i j) (scaled_at s x v) in
    subst Q y_is (subst P x_is (at_steps f d start s i j p h (omega (arith, few_x)) (omega (arith, few_y))))

-- the values that a step leads to
pub lanes_right : (s : Scaled) (x y j across v w : ℕ) → across ≡ s.right * 8 % 18446744073709551616 → v ≡ scaled_at s (x + j) y → w ≡ (v + across) % 18446744073709551616 → w ≡ scaled_at s (x + 8 + j) y
lanes_right s x y j across v w step here is =
    let p = mul-add s.right (x + j) 8 in
    let q : s.right * (x + j + 8) ≡ s.right * (x + 8 + j) = ap (λ n. s.right * n) (omega arith) in
    by s.origin (s.down * y) (s.right * (x + j)) (s.right * 8) (s.right * (x + 8 + j)) (omega (arith, p, q)) step here
  where
    by : (o d r e t : ℕ) → t ≡ r + e → across ≡ e % 18446744073709551616 → v ≡ (o + r + d) % 18446744073709551616 → w ≡ (o + t + d) % 18446744073709551616
    by o d r e t sum eight before = omega (arith, sum, eight, before, is)

pub four_right : (s : Scaled) (x y j across v w : ℕ) → across ≡ s.right * 4 % 18446744073709551616 → v ≡ scaled_at s (x + j) y → w ≡ (v + across) % 18446744073709551616 → w ≡ scaled_at s (x + 4 + j) y
four_right s x y j across v w step here is =
    let p = mul-add s.right (x + j) 4 in
    let q : s.right * (x + j + 4) ≡ s.right * (x + 4 + j) = ap (λ n. s.right * n) (omega arith) in
    by s.origin (s.down * y) (s.right * (x + j)) (s.right * 4) (s.right * (x + 4 + j)) (omega (arith, p, q)) step here
  where
    by : (o d r e t : ℕ) → t ≡ r + e → across ≡ e % 18446744073709551616 → v ≡ (o + r + d) % 18446744073709551616 → w ≡ (o + t + d) % 18446744073709551616
    by o d r e t sum four before = omega (arith, sum, four, before, is)

pub lane_right : (s : Scaled) (x y j v : ℕ) → v ≡ scaled_at s (x + j) y → (v + s.right) % 18446744073709551616 ≡ scaled_at s (x + (j + 1)) y
lane_right s x y j v here =
    let p = mul-add s.right (x + j) 1 in
    let q : s.right * (x + j + 1) ≡ s.right * (x + (j + 1)) = ap (λ n. s.right * n) (omega arith) in
    by s.origin (s.down * y) (s.right * (x + j)) (s.right * (x + (j + 1))) (omega (arith, p, q)) here
  where
    by : (o d r t : ℕ) → t ≡ r + s.right → v ≡ (o + r + d) % 18446744073709551616 → (v + s.right) % 18446744073709551616 ≡ (o + t + d) % 18446744073709551616
    by o d r t sum before = omega (arith, sum, before)

-- four lanes from the first on, each a step more
pub four_lanes : (s : Scaled) (x y a b c d : ℕ) → a ≡ scaled_at s x y → b ≡ (a + s.right) % 18446744073709551616 → c ≡ (b + s.right) % 18446744073709551616 → d ≡ (c + s.right) % 18446744073709551616
    → (j : ℕ) → j < 4 → get_or (a ∷ b ∷ c ∷ d ∷ []) j 0 ≡ scaled_at s (x + j) y
four_lanes s x y a b c d first second third fourth = lane
  where
    none : x ≡ x + 0
    none = omega arith

    at_first : a ≡ scaled_at s (x + 0) y
    at_first = first ∙ ap (λ n. scaled_at s n y) none

    at_second : b ≡ scaled_at s (x + 1) y
    at_second = second ∙ lane_right s x y 0 a at_first

    at_third : c ≡ scaled_at s (x + 2) y
    at_third = third ∙ lane_right s x y 1 b at_second

    at_fourth : d ≡ scaled_at s (x + 3) y
    at_fourth = fourth ∙ lane_right s x y 2 c at_third

    lane : (j : ℕ) → j < 4 → get_or (a ∷ b ∷ c ∷ d ∷ []) j 0 ≡ scaled_at s (x + j) y
    lane zero h = at_first
    lane (suc zero) h = at_second
    lane (suc (suc zero)) h = at_third
    lane (suc (suc (suc zero))) h = at_fourth
    lane (suc (suc (suc (suc j)))) h = absurd (omega arith)

pub lanes_down : (s : Scaled) (x y down v w : ℕ) → down ≡ s.down → v ≡ scaled_at s x y → w ≡ (v + down) % 18446744073709551616 → w ≡ scaled_at s x (y + 1)
lanes_down s x y down v w step here is =
    let p = mul-add s.down y 1 in
    by s.origin (s.right * x) (s.down * y) (s.down * (y + 1)) (omega (arith, p, step)) here
  where
    by : (o r d t : ℕ) → t ≡ d + down → v ≡ (o + r + d) % 18446744073709551616 → w ≡ (o + r + t) % 18446744073709551616
    by o r d t sum before = omega (arith, sum, before, is)

-- the excess where a triangle lies
pub excess_bound : (a e i j n : ℕ) → e ≤ 1 → i + j ≤ n → a * (e * (1 + n)) < 4294967296 → a * excess_at e i j < 4294967296
excess_bound a zero i j n l q s = omega (arith, s)
excess_bound a (suc zero) i j n l q s = let few : excess_at 1 i j ≤ 1 * (1 + n) = omega (arith, q) in let w = mul-le-mul_left a few in omega (arith, s, w)
excess_bound a (suc (suc e)) i j n l q s = absurd (omega (arith, l))

pub excess_few : (e x y : ℕ) → e ≤ 1 → x ≤ 8191 → y ≤ 8191 → excess_at e x y ≤ 16384
excess_few zero x y l p q = omega arith
excess_few (suc zero) x y l p q = omega arith
excess_few (suc (suc e)) x y l p q = absurd (omega (arith, l))

-- a natural number that is scaled and small left nothing out
turned_none : (h a v : ℕ) (o t : ℤ) (e : ℕ) → v < 18446744073709551616 → h ≤ a * 4294967294 → e ≤ 32768 → 0 < a → pos v *ℤ pos a ≡ pos 4294967296 *ℤ pos h +ℤ o +ℤ t *ℤ (pos 18446744073709551616 *ℤ pos a) → pos 0 ≤ℤ o → o ≤ℤ (pos a *ℤ pos e) → t ≡ pos 0
turned_none h a v o (pos zero) e l m few some x low high = refl
turned_none h a v o (pos (suc k)) e l m few some x low high = absurd (let y = mul-le-mul_left a l in omega (arith, ints, x, y))
turned_none h a v o (negsuc k) e l m few some x low high = absurd (let y = mul-le-mul_left a few in omega (arith, ints, x, y))

-- what a scaled depth tells of the height above it: times the area it is the height, and a little more
pub record IsAbove (h a e v : ℕ) : Type 0 where
  pub least : 4294967296 * h ≤ v * a
  pub most : v * a ≤ 4294967296 * h + a * e

pub above : (h a e v : ℕ) → v < 18446744073709551616 → h ≤ a * 4294967294 → e ≤ 32768 → 0 < a → IsScaled (pos h) (pos a) e v → IsAbove h a e v
above h a e v l m few some s =
    let p : pos 0 <ℤ pos a = omega (arith, ints) in
    let b = lies (pos h) (pos a) e v p s in
    let o = int_rem_euclid (pos v *ℤ pos a -ℤ pos 4294967296 *ℤ pos h) (pos 18446744073709551616 *ℤ pos a) in
    let t = int_div_euclid (pos v *ℤ pos a -ℤ pos 4294967296 *ℤ pos h) (pos 18446744073709551616 *ℤ pos a) in
    let none = turned_none h a v o t e l m few some b.exact b.low b.high in
    let exact : pos v *ℤ pos a ≡ pos 4294967296 *ℤ pos h +ℤ o +ℤ pos 0 *ℤ (pos 18446744073709551616 *ℤ pos a) = b.exact ∙ ap (λ z. pos 4294967296 *ℤ pos h +ℤ o +ℤ z *ℤ (pos 18446744073709551616 *ℤ pos a)) none in
    let low = b.low in
    let high = b.high in
    record { least = omega (arith, ints, exact, low); most = omega (arith, ints, exact, high) }

-- a quotient by its bounds
quotient : (h a q : ℕ) → q * a ≤ h → h < q * a + a → h / a ≡ q
quotient h a q low high =
    let r = h - q * a in
    let is : h ≡ q * a + r = omega arith in
    ap (λ n. n / a) is ∙ div-mul-add q a r (omega arith)

-- the depth is the whole part of the scaled height, or the number below it
module _ (h a e v : ℕ) (some : 0 < a) (n : IsAbove h a e v) where
  parts : v * a ≡ 4294967296 * (v / 4294967296 * a) + v % 4294967296 * a
  parts =
      let z = div-add-mod' v 4294967296 in
      let s = add-mul (v / 4294967296 * 4294967296) (v % 4294967296) a in
      let t = mul_right_comm (v / 4294967296) 4294967296 a in
      ap (λ m. m * a) (sym z) ∙ omega (arith, s, t)

  below_next : h < v / 4294967296 * a + a
  below_next =
      let p = parts in
      let y = mod_below v 4294967296 (omega arith) in
      let x = add-mul (v % 4294967296) 1 a in
      let w = one_less y in
      let l = n.least in
      omega (arith, p, w, l, x)
    where
      one_less : v % 4294967296 < 4294967296 → (v % 4294967296 + 1) * a ≤ 4294967296 * a
      one_less y = mul-le-mul_right a (omega (arith, y))

  pub whole_exact : a * e < 4294967296 → h / a ≡ v / 4294967296
  whole_exact small =
      let p = parts in
      let m = n.most in
      quotient h a (v / 4294967296) (omega (arith, p, m, small)) below_next

  pub whole_far : e ≤ v % 4294967296 → h / a ≡ v / 4294967296
  whole_far far =
      let p = parts in
      let m = n.most in
      let w = mul-le-mul_left a far in
      quotient h a (v / 4294967296) (omega (arith, p, m, w)) below_next

  pub whole_low : v / 4294967296 * a ≤ h → h / a ≡ v / 4294967296
  whole_low low = quotient h a (v / 4294967296) low below_next

  pub whole_high : e ≤ 16384 → h < v / 4294967296 * a → h / a + 1 ≡ v / 4294967296
  whole_high few high =
      let p = parts in
      let m = n.most in
      let w = mul-le-mul_left a few in
      by (v / 4294967296) (omega (arith, p, m, w)) high
    where
      by : (q : ℕ) → q * a ≤ h + a → h < q * a → h / a + 1 ≡ q
      by zero low high = absurd (omega (arith, high))
      by (suc q) low high = let is = quotient h a q (omega (arith, low)) (omega (arith, high)) in omega (arith, is)
