-- The depths of a triangle in a rectangle of which it covers a part lie between what the values at two opposite corner pixels tell, covered or not.
use Rattle.std.proofs.Common.{◌≡◌, ◌∙◌, ap, sym, subst, refl, arith, ℕ, zero, suc, ◌+◌, ◌-◌, ◌*◌, ◌/◌, ◌%◌, ◌<◌, ◌≤◌}
use Rattle.std.specs.Prelude.{ℤ, pos, negsuc, ◌+ℤ◌, ◌-ℤ◌, ◌*ℤ◌, ◌≤ℤ◌, ◌<ℤ◌, min, unsigned_abs, IsTrue}
use Rattle.std.specs.Int.{int_div_euclid, int_rem_euclid}
use Rattle.std.proofs.lemmas.Int.{ints}
use Rattle.std.proofs.lemmas.Nat.{mod_below, le-div}
use Rattle.std.proofs.Math.Nat.{div-mul-le_self, mul-add, mul-div_cancel, mul-le-mul_left, mul-le-mul_right}
use Rattle.gfxspec.proofs.Integers.{spread, mul_assoc, mul_left_comm}
use Rattle.gfxspec.specs.declared.geometry.PixelRect.{PixelRect}
use Rattle.gfxspec.specs.Depth.{biased, depth_at, weight}
use Rattle.gfxspec.specs.Raster.{area, centre, covers}
use Rattle.gfxspec.specs.Tiles.{IsIn}
use Rattle.snap.proofs.CoverLaws.{all_hold, weights_sum}
use Rattle.depthplane.specs.declared.height.Linear.{Linear}
use Rattle.depthplane.specs.Division.{IsDivisor}
use Rattle.depthplane.specs.Height.{AreDepths, DeepTriangle, height, size_of}
use Rattle.depthplane.specs.Linear.{rises, value_at}
use Rattle.depthplane.specs.Place.{depth_of}
use Rattle.depthplane.specs.Range.{depth_above, depth_below, far_end, near_end}
use Rattle.depthplane.specs.declared.scaled.Scaled.{Scaled}
use Rattle.depthplane.specs.declared.start.Start.{Start}
use Rattle.depthplane.specs.Scaled.{IsGentle, IsScaled, IsScaledLinear, scaled_at}
use Rattle.depthplane.proofs.Biases.{biased_order, depth_small}
use Rattle.depthplane.proofs.DepthLaws.{height_covered, sum_bound, weighted}
use Rattle.depthplane.proofs.RangeLaws.{high_steps, low_steps, sums}
use Rattle.depthplane.proofs.ScaledLaws.{IsAbove, above, is_scaled, lies, small_times, sum_scaled, times_scaled, wraps}

-- v is n divided by the divisor, in 2^32nds, and at most 16,384 of them more or less
abbrev pub IsAbout : ℤ → ℤ → ℕ → Type 0
IsAbout n divisor v = IsScaled n divisor 32768 ((v + 16384) % 18446744073709551616)

slack_scaled : (a f w : ℕ) → 0 < a → w ≤ f → f < 18446744073709551616 → IsScaled (pos 0) (pos a) f w
slack_scaled a f w some enough few =
    let more = mul-le-mul_left a enough in
    is_scaled (pos 0) (pos a) f w (pos (w * a)) (pos 0) (omega (arith, ints, some)) few
    (record { exact = omega (arith, ints); low = omega (arith, ints); high = omega (arith, ints, more) })

-- a scaled number below 0
turned : (n d : ℤ) (e v : ℕ) → pos 0 <ℤ d → e < 18446744073709551616 → IsScaled n d e v → IsScaled (pos 0 -ℤ n) d e ((v * 18446744073709551615 + e) % 18446744073709551616)
turned n d e v p few h =
    let a = lies n d e v p h in
    let o = int_rem_euclid (pos v *ℤ d -ℤ pos 4294967296 *ℤ n) (pos 18446744073709551616 *ℤ d) in
    let t = int_div_euclid (pos v *ℤ d -ℤ pos 4294967296 *ℤ n) (pos 18446744073709551616 *ℤ d) in
    let c = pos ((v * 18446744073709551615 + e) / 18446744073709551616) in
    let low = a.low in
    let high = a.high in
    let exact = ap (λ z. z *ℤ d) (wraps (v * 18446744073709551615 + e)) ∙ by (pos v) (pos e) o t c a.exact in
    is_scaled (pos 0 -ℤ n) d e ((v * 18446744073709551615 + e) % 18446744073709551616) (d *ℤ pos e -ℤ o) (pos v -ℤ t -ℤ c) p few
    (record { exact = exact; low = omega (arith, ints, high); high = omega (arith, ints, low) })
  where
    by : (v e o t c : ℤ) → v *ℤ d ≡ pos 4294967296 *ℤ n +ℤ o +ℤ t *ℤ (pos 18446744073709551616 *ℤ d)
        → ((v *ℤ pos 18446744073709551615 +ℤ e) -ℤ c *ℤ pos 18446744073709551616) *ℤ d ≡ pos 4294967296 *ℤ (pos 0 -ℤ n) +ℤ (d *ℤ e -ℤ o) +ℤ (v -ℤ t -ℤ c) *ℤ (pos 18446744073709551616 *ℤ d)
    by v e o t c f =
        let x = mul_assoc v (pos 18446744073709551615) d ∙ mul_left_comm v (pos 18446744073709551615) d in
        let y = mul_assoc c (pos 18446744073709551616) d ∙ mul_left_comm c (pos 18446744073709551616) d in
        let z = mul_left_comm v (pos 18446744073709551616) d in
        let w = mul_left_comm c (pos 18446744073709551616) d in
        simp spread (omega (arith, ints, f, x, y, z, w))

-- v, raised by as many parts as it may be too small, is n divided by the divisor, and at most so many 2^32nds more
record IsShifted (n d : ℤ) (most v : ℕ) : Type 0 where
  shift : ℕ
  excess : ℕ
  within : shift ≤ excess
  few : excess ≤ most
  scaled : IsScaled n d excess ((v + shift) % 18446744073709551616)

-- a value i steps further along an axis, or i steps before
module _ (n s d : ℤ) (e r most base at i : ℕ) (p : pos 0 <ℤ d) (l : e ≤ 1) (f : i ≤ 8191) (m : most ≤ 8192) (step : IsScaled s d e r) where
  further : IsShifted n d most (base + r * at) → IsShifted (n +ℤ (pos (at + i) *ℤ s -ℤ pos at *ℤ s)) d (most + 8191) (base + r * (at + i))
  further h =
      let few = h.few in
      let within = h.within in
      let si = small_times e i l in
      let along = times_scaled s d e r i p (omega (arith, si, f)) step in
      let sum = sum_scaled n (pos i *ℤ s) d h.excess (i * e) ((base + r * at + h.shift) % 18446744073709551616) (r * i % 18446744073709551616) p (omega (arith, few, m, si, f)) h.scaled along in
      let P : ℕ → Type 0 = λ v. IsScaled (n +ℤ pos i *ℤ s) d (h.excess + i * e) v in
      let Q : ℤ → Type 0 = λ z. IsScaled z d (h.excess + i * e) ((base + r * (at + i) + h.shift) % 18446744073709551616) in
      let product = mul-add r at i in
      record {
        shift = h.shift;
        excess = h.excess + i * e;
        within = omega (arith, within);
        few = omega (arith, few, si, f);
        scaled = subst Q number (subst P (value (r * at) (r * i) (r * (at + i)) h.shift product) sum);
      }
    where
      number : n +ℤ pos i *ℤ s ≡ n +ℤ (pos (at + i) *ℤ s -ℤ pos at *ℤ s)
      number = omega (arith, ints)

      value : (a b c k : ℕ) → c ≡ a + b → ((base + a + k) % 18446744073709551616 + b % 18446744073709551616) % 18446744073709551616 ≡ (base + c + k) % 18446744073709551616
      value a b c k g = omega (arith, g)

  before : IsShifted n d most (base + r * (at + i)) → IsShifted (n +ℤ (pos at *ℤ s -ℤ pos (at + i) *ℤ s)) d (most + 8191) (base + r * at)
  before h =
      let few = h.few in
      let within = h.within in
      let si = small_times e i l in
      let along = times_scaled s d e r i p (omega (arith, si, f)) step in
      let back = turned (pos i *ℤ s) d (i * e) (r * i % 18446744073709551616) p (omega (arith, si, f)) along in
      let sum = sum_scaled n (pos 0 -ℤ pos i *ℤ s) d h.excess (i * e) ((base + r * (at + i) + h.shift) % 18446744073709551616) ((r * i % 18446744073709551616 * 18446744073709551615 + i * e) % 18446744073709551616) p (omega (arith, few, m, si, f)) h.scaled back in
      let P : ℕ → Type 0 = λ v. IsScaled (n +ℤ (pos 0 -ℤ pos i *ℤ s)) d (h.excess + i * e) v in
      let Q : ℤ → Type 0 = λ z. IsScaled z d (h.excess + i * e) ((base + r * at + (h.shift + i * e)) % 18446744073709551616) in
      let product = mul-add r at i in
      record {
        shift = h.shift + i * e;
        excess = h.excess + i * e;
        within = omega (arith, within);
        few = omega (arith, few, si, f);
        scaled = subst Q number (subst P (value (r * at) (r * i) (r * (at + i)) h.shift (i * e) product) sum);
      }
    where
      number : n +ℤ (pos 0 -ℤ pos i *ℤ s) ≡ n +ℤ (pos at *ℤ s -ℤ pos (at + i) *ℤ s)
      number = omega (arith, ints)

      value : (a b c k j : ℕ) → c ≡ a + b → ((base + c + k) % 18446744073709551616 + (b % 18446744073709551616 * 18446744073709551615 + j) % 18446744073709551616) % 18446744073709551616 ≡ (base + a + (k + j)) % 18446744073709551616
      value a b c k j g = omega (arith, g)

-- a value somewhere else along an axis
elsewhere : (n s d : ℤ) (e r most base from to : ℕ) → pos 0 <ℤ d → e ≤ 1 → from ≤ 8191 → to ≤ 8191 → most ≤ 8192 → IsScaled s d e r → IsShifted n d most (base + r * from)
    → IsShifted (n +ℤ (pos to *ℤ s -ℤ pos from *ℤ s)) d (most + 8191) (base + r * to)
elsewhere n s d e r most base from to p l f t m step h = by (to - from) refl
  where
    by : (k : ℕ) → to - from ≡ k → IsShifted (n +ℤ (pos to *ℤ s -ℤ pos from *ℤ s)) d (most + 8191) (base + r * to)
    by zero is =
        let i = from - to in
        let back : from ≡ to + i = omega (arith, is) in
        let P : ℕ → Type 0 = λ u. IsShifted n d most (base + r * u) in
        let Q : ℕ → Type 0 = λ u. IsShifted (n +ℤ (pos to *ℤ s -ℤ pos u *ℤ s)) d (most + 8191) (base + r * to) in
        subst Q (sym back) (before n s d e r most base to i p l (omega (arith, f)) m step (subst P back h))
    by (suc k) is =
        let on : from + suc k ≡ to = omega (arith, is) in
        let Q : ℕ → Type 0 = λ u. IsShifted (n +ℤ (pos u *ℤ s -ℤ pos from *ℤ s)) d (most + 8191) (base + r * u) in
        subst Q on (further n s d e r most base from (suc k) p l (omega (arith, on, t)) m step h)

about_shifted : (n d : ℤ) (v : ℕ) → IsDivisor d → IsShifted n d 16383 v → IsAbout n d (v % 18446744073709551616)
about_shifted n (negsuc a) v p h = let positive = p.positive in absurd (omega (arith, ints, positive))
about_shifted n (pos a) v p h =
    let positive = p.positive in
    let few = h.few in
    let within = h.within in
    let f = 32768 - h.excess in
    let slack = slack_scaled a f (16384 - h.shift) (omega (arith, ints, positive)) (omega (arith, few)) (omega (arith, few)) in
    let both = sum_scaled n (pos 0) (pos a) h.excess f ((v + h.shift) % 18446744073709551616) (16384 - h.shift) positive (omega (arith, few)) h.scaled slack in
    let sum : h.excess + f ≡ 32768 = omega (arith, few) in
    let same : n +ℤ pos 0 ≡ n = omega (arith, ints) in
    let P : ℤ → Type 0 = λ m. IsScaled m (pos a) 32768 ((v % 18446744073709551616 + 16384) % 18446744073709551616) in
    let Q : ℕ → Type 0 = λ x. IsScaled (n +ℤ pos 0) (pos a) x ((v % 18446744073709551616 + 16384) % 18446744073709551616) in
    let R : ℕ → Type 0 = λ x. IsScaled (n +ℤ pos 0) (pos a) (h.excess + f) x in
    let value : ((v + h.shift) % 18446744073709551616 + (16384 - h.shift)) % 18446744073709551616 ≡ (v % 18446744073709551616 + 16384) % 18446744073709551616 = omega (arith, few, within) in
    subst P same (subst Q sum (subst R value both))

-- the value at any pixel, wherever the triangle begins
pub about_pixel : (f : Linear) (d : ℤ) (start : Start) (s : Scaled) (x y : ℕ) → IsDivisor d → IsScaledLinear f d start s → start.left ≤ 8191 → start.top ≤ 8191 → x ≤ 8191 → y ≤ 8191 → IsAbout (value_at f x y) d (scaled_at s x y)
about_pixel f d start s x y p h left top right down =
    let l = h.error in
    let begun : IsShifted (value_at f start.left start.top) d 1 (s.origin + s.down * start.top + s.right * start.left) = record {
      shift = 0;
      excess = s.error;
      within = omega arith;
      few = l;
      scaled = subst (λ v. IsScaled (value_at f start.left start.top) d s.error v) (value (s.right * start.left) (s.down * start.top)) h.begins;
    } in
    let along = elsewhere (value_at f start.left start.top) f.step_x d s.error s.right 1 (s.origin + s.down * start.top) start.left x p.positive l left right (omega arith) h.right begun in
    let P : ℕ → Type 0 = λ v. IsShifted (value_at f start.left start.top +ℤ (pos x *ℤ f.step_x -ℤ pos start.left *ℤ f.step_x)) d 8192 v in
    let turn = subst P (other (s.right * x) (s.down * start.top)) along in
    let below = elsewhere (value_at f start.left start.top +ℤ (pos x *ℤ f.step_x -ℤ pos start.left *ℤ f.step_x)) f.step_y d s.error s.down 8192 (s.origin + s.right * x) start.top y p.positive l top down (omega arith) h.down turn in
    let Q : ℤ → Type 0 = λ z. IsShifted z d 16383 (s.origin + s.right * x + s.down * y) in
    about_shifted (value_at f x y) d (s.origin + s.right * x + s.down * y) p (subst Q number below)
  where
    value : (a b : ℕ) → (s.origin + a + b) % 18446744073709551616 ≡ (s.origin + b + a + 0) % 18446744073709551616
    value a b = omega arith

    other : (a b : ℕ) → s.origin + b + a ≡ s.origin + a + b
    other a b = omega arith

    number : value_at f start.left start.top +ℤ (pos x *ℤ f.step_x -ℤ pos start.left *ℤ f.step_x) +ℤ (pos y *ℤ f.step_y -ℤ pos start.top *ℤ f.step_y) ≡ value_at f x y
    number = omega (arith, ints)

-- 2^31 units, scaled
half_scaled : (a : ℕ) → 0 < a → IsScaled (pos (2147483648 * a)) (pos a) 0 9223372036854775808
half_scaled a some =
    is_scaled (pos (2147483648 * a)) (pos a) 0 9223372036854775808 (pos 0) (pos 0) (omega (arith, ints, some)) (omega arith)
    (record { exact = omega (arith, ints); low = omega (arith, ints); high = omega (arith, ints) })

-- a value raised by 2^31 units is that of a number above 0
raised_above : (n : ℤ) (h a v : ℕ) → 0 < a → n +ℤ pos (2147483648 * a) ≡ pos h → h ≤ a * 4294967294 → IsAbout n (pos a) v → IsAbove h a 32768 ((v + 9223372036854792192) % 18446744073709551616)
raised_above n h a v some is bound s =
    let both = sum_scaled n (pos (2147483648 * a)) (pos a) 32768 0 ((v + 16384) % 18446744073709551616) 9223372036854775808 (omega (arith, ints, some)) (omega arith) s (half_scaled a some) in
    let raised = (v + 9223372036854792192) % 18446744073709551616 in
    let P : ℤ → Type 0 = λ m. IsScaled m (pos a) 32768 (((v + 16384) % 18446744073709551616 + 9223372036854775808) % 18446744073709551616) in
    let Q : ℕ → Type 0 = λ u. IsScaled (pos h) (pos a) 32768 u in
    let same : ((v + 16384) % 18446744073709551616 + 9223372036854775808) % 18446744073709551616 ≡ raised = omega arith in
    above h a 32768 raised (mod_below (v + 9223372036854792192) 18446744073709551616 (omega arith)) bound (omega arith) some (subst Q same (subst P is both))

-- ---- quotients, by raised values

module _ (w h a u : ℕ) (some : 0 < a) (n : IsAbove h a 32768 u) where
  least_quotient : h ≤ w + 2147483648 * a → min ((u - 32768) / 4294967296 - 2147483648) 16777215 ≤ w / a
  least_quotient below = by ((u - 32768) / 4294967296 - 2147483648) refl
    where
      by : (k : ℕ) → (u - 32768) / 4294967296 - 2147483648 ≡ k → min k 16777215 ≤ w / a
      by zero is = omega arith
      by (suc k) is =
          let whole : (suc k + 2147483648) * 4294967296 + 32768 ≤ u = omega (arith, is) in
          let times = mul-le-mul_right a whole in
          let most = n.most in
          let fits : suc k * a ≤ w = omega (arith, times, most, below) in
          let all = le-div (suc k) w a some fits in
          omega (arith, all)

  greatest_quotient : w / a ≤ 16777215 → w + 2147483648 * a ≤ h → w / a ≤ min (u / 4294967296 - 2147483648) 16777215
  greatest_quotient small above =
      let z = w / a in
      let under = div-mul-le_self w a in
      let least = n.least in
      let times : (z + 2147483648) * 4294967296 * a ≤ u * a = omega (arith, under, least, above) in
      let whole = le-div ((z + 2147483648) * 4294967296) (u * a) a some times in
      let same = mul-div_cancel u some in
      let fits : (z + 2147483648) * 4294967296 ≤ u = omega (arith, whole, same) in
      omega (arith, fits, small)

-- ---- the value at a corner is not far from that at any pixel of the rectangle

near_steps : (s : ℤ) (a first x last : ℕ) → first ≤ x → x ≤ last → last ≤ first + 31 → unsigned_abs s ≤ 16777216 * a → (pos x *ℤ s) ≤ℤ (pos (near_end (rises s) first last) *ℤ s +ℤ pos (520093696 * a))
near_steps (pos n) a first x last h k l g = let few : x ≤ first + 31 = omega (arith, k, l) in let m = mul-le-mul_right n few in omega (arith, ints, m, g)
near_steps (negsuc n) a first x last h k l g = let few : last ≤ x + 31 = omega (arith, h, l) in let m = mul-le-mul_right (suc n) few in omega (arith, ints, m, g)

far_steps : (s : ℤ) (a first x last : ℕ) → first ≤ x → x ≤ last → last ≤ first + 31 → unsigned_abs s ≤ 16777216 * a → (pos (far_end (rises s) first last) *ℤ s) ≤ℤ (pos x *ℤ s +ℤ pos (520093696 * a))
far_steps (pos n) a first x last h k l g = let few : last ≤ x + 31 = omega (arith, h, l) in let m = mul-le-mul_right n few in omega (arith, ints, m, g)
far_steps (negsuc n) a first x last h k l g = let few : x ≤ first + 31 = omega (arith, k, l) in let m = mul-le-mul_right (suc n) few in omega (arith, ints, m, g)

sums_near : (o p q u v : ℤ) (a : ℕ) → p ≤ℤ (q +ℤ pos (520093696 * a)) → u ≤ℤ (v +ℤ pos (520093696 * a)) → (o +ℤ p +ℤ u) ≤ℤ (o +ℤ q +ℤ v +ℤ pos (1040187392 * a))
sums_near o p q u v a h k = omega (arith, ints, h, k)

natural : (z : ℤ) → pos 0 ≤ℤ z → z ≡ pos (unsigned_abs z)
natural (pos n) h = refl
natural (negsuc n) h = absurd (omega (arith, ints, h))

-- a corner's value, raised by 2^31 units
pub record IsRaised (v : ℤ) (a h : ℕ) : Type 0 where
  pub is : v +ℤ pos (2147483648 * a) ≡ pos h
  pub bound : h ≤ a * 4294967294

near_raised : (v : ℤ) (w a : ℕ) → v ≤ℤ pos w → pos w ≤ℤ (v +ℤ pos (1040187392 * a)) → w ≤ a * 16777215 → IsRaised v a (unsigned_abs (v +ℤ pos (2147483648 * a)))
near_raised v w a low near small =
    let is = natural (v +ℤ pos (2147483648 * a)) (omega (arith, ints, near)) in
    record { is = is; bound = omega (arith, ints, is, low, small) }

far_raised : (v : ℤ) (w a : ℕ) → pos w ≤ℤ v → v ≤ℤ (pos w +ℤ pos (1040187392 * a)) → w ≤ a * 16777215 → IsRaised v a (unsigned_abs (v +ℤ pos (2147483648 * a)))
far_raised v w a high near small =
    let is = natural (v +ℤ pos (2147483648 * a)) (omega (arith, ints, high)) in
    record { is = is; bound = omega (arith, ints, is, near, small) }

raised_most : (v : ℤ) (w a h : ℕ) → v ≤ℤ pos w → v +ℤ pos (2147483648 * a) ≡ pos h → h ≤ w + 2147483648 * a
raised_most v w a h low is = omega (arith, ints, low, is)

raised_least : (v : ℤ) (w a h : ℕ) → pos w ≤ℤ v → v +ℤ pos (2147483648 * a) ≡ pos h → w + 2147483648 * a ≤ h
raised_least v w a h high is = omega (arith, ints, high, is)

-- what a value at a corner tells of a number w, divided by a, that is not far from it
corner_below : (n : ℤ) (w a v : ℕ) → 0 < a → n ≤ℤ pos w → pos w ≤ℤ (n +ℤ pos (1040187392 * a)) → w ≤ a * 16777215 → IsAbout n (pos a) v → depth_below v ≤ w / a
corner_below n w a v some low near small s =
    let raised = near_raised n w a low near small in
    let h = unsigned_abs (n +ℤ pos (2147483648 * a)) in
    least_quotient w h a ((v + 9223372036854792192) % 18446744073709551616) some (raised_above n h a v some raised.is raised.bound s) (raised_most n w a h low raised.is)

corner_above : (n : ℤ) (w a v : ℕ) → 0 < a → pos w ≤ℤ n → n ≤ℤ (pos w +ℤ pos (1040187392 * a)) → w ≤ a * 16777215 → w / a ≤ 16777215 → IsAbout n (pos a) v → w / a ≤ depth_above v
corner_above n w a v some high near small depth s =
    let raised = far_raised n w a high near small in
    let h = unsigned_abs (n +ℤ pos (2147483648 * a)) in
    greatest_quotient w h a ((v + 9223372036854792192) % 18446744073709551616) some (raised_above n h a v some raised.is raised.bound s) depth (raised_least n w a h high raised.is)

some_area : (n : ℕ) → IsDivisor (pos n) → 0 < n
some_area n h = let p = h.positive in omega (arith, ints, p)

-- a pixel of a rectangle that the triangle covers
module _ (d : DeepTriangle) (f : Linear) (r : PixelRect)
    (value : (x y : ℕ) → value_at f x y ≡ height d (centre x y))
    (divisor : IsDivisor (size_of d)) (gentle : IsGentle f (size_of d))
    (columns : r.right ≤ r.left + 32) (rows : r.bottom ≤ r.top + 32) (deep : AreDepths d)
    (x y : ℕ) (is : IsIn r x y) (c : IsTrue (covers d.triangle (centre x y))) where
  abbrev whole : ℕ
  whole = weighted d (centre x y)

  abbrev size : ℕ
  size = unsigned_abs (area d.triangle)

  some : 0 < size
  some = some_area size divisor

  value_is : value_at f x y ≡ pos whole
  value_is = value x y ∙ height_covered d (centre x y) (all_hold d.triangle (centre x y) c)

  small : whole ≤ size * 16777215
  small =
      let p = centre x y in
      sum_bound (weight d.triangle 0 p) (weight d.triangle 1 p) (weight d.triangle 2 p) size d.z0 d.z1 d.z2 16777215 deep.z0 deep.z1 deep.z2 (weights_sum d.triangle p (all_hold d.triangle p c))

  divided : whole / size ≡ depth_at d.triangle d.z0 d.z1 d.z2 (centre x y)
  divided = ap (λ n. whole / n) (sym (weights_sum d.triangle (centre x y) (all_hold d.triangle (centre x y) c)))

  module _ (u v n : ℕ) (scaled : IsAbout (value_at f u v) (size_of d) n) where
    pub about_least : u ≡ near_end (rises f.step_x) r.left (r.right - 1) → v ≡ near_end (rises f.step_y) r.top (r.bottom - 1) → biased d.bias (depth_below n) ≤ depth_of d x y
    about_least is_x is_y =
        let below_x = low_steps f.step_x r.left x (r.right - 1) is.left (omega (arith, is.right)) in
        let below_y = low_steps f.step_y r.top y (r.bottom - 1) is.top (omega (arith, is.bottom)) in
        let near_x = near_steps f.step_x size r.left x (r.right - 1) is.left (omega (arith, is.right)) (omega (arith, columns)) gentle.right in
        let near_y = near_steps f.step_y size r.top y (r.bottom - 1) is.top (omega (arith, is.bottom)) (omega (arith, rows)) gentle.down in
        let corner : ℤ = value_at f u v in
        let low : corner ≤ℤ value_at f x y = rw (is_x, is_y) (sums f.origin _ _ _ _ below_x below_y) in
        let near : value_at f x y ≤ℤ (corner +ℤ pos (1040187392 * size)) = rw (is_x, is_y) (sums_near f.origin _ _ _ _ size near_x near_y) in
        let under = corner_below corner whole size n some (subst (λ (z : ℤ). corner ≤ℤ z) value_is low) (subst (λ (z : ℤ). z ≤ℤ (corner +ℤ pos (1040187392 * size))) value_is near) small scaled in
        biased_order d.bias (depth_below n) _ (subst (λ m. depth_below n ≤ m) divided under)

    pub about_greatest : u ≡ far_end (rises f.step_x) r.left (r.right - 1) → v ≡ far_end (rises f.step_y) r.top (r.bottom - 1) → depth_of d x y ≤ biased d.bias (depth_above n)
    about_greatest is_x is_y =
        let above_x = high_steps f.step_x r.left x (r.right - 1) is.left (omega (arith, is.right)) in
        let above_y = high_steps f.step_y r.top y (r.bottom - 1) is.top (omega (arith, is.bottom)) in
        let near_x = far_steps f.step_x size r.left x (r.right - 1) is.left (omega (arith, is.right)) (omega (arith, columns)) gentle.right in
        let near_y = far_steps f.step_y size r.top y (r.bottom - 1) is.top (omega (arith, is.bottom)) (omega (arith, rows)) gentle.down in
        let corner : ℤ = value_at f u v in
        let high : value_at f x y ≤ℤ corner = rw (is_x, is_y) (sums f.origin _ _ _ _ above_x above_y) in
        let near : corner ≤ℤ (value_at f x y +ℤ pos (1040187392 * size)) = rw (is_x, is_y) (sums_near f.origin _ _ _ _ size near_x near_y) in
        let depth : whole / size ≤ 16777215 = subst (λ m. m ≤ 16777215) (sym divided) (depth_small d x y deep) in
        let over = corner_above corner whole size n some (subst (λ (z : ℤ). z ≤ℤ corner) value_is high) (subst (λ (z : ℤ). corner ≤ℤ (z +ℤ pos (1040187392 * size))) value_is near) small depth scaled in
        biased_order d.bias _ (depth_above n) (subst (λ m. m ≤ depth_above n) divided over)
