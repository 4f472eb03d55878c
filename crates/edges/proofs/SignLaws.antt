-- An edge's signs in lanes of 32 bits.
use Rattle.std.proofs.Common.{◌≡◌, ◌∙◌, ap, sym, subst, refl, arith, ℕ, zero, suc, ◌+◌, ◌*◌, ◌%◌, ◌^◌, ◌<◌, ◌≤◌, List, [], ◌∷◌, length, map, get_or, w32, to_z, of_z, FitsSigned}
use Rattle.std.specs.Prelude.{ℤ, pos, ◌+ℤ◌, ◌-ℤ◌, ◌*ℤ◌, ◌≤ℤ◌, ◌↔◌, unsigned_abs, slice_index_or, replicate}
use Rattle.std.specs.Int.{int_wrap}
use Rattle.std.specs.Simd.Lanes.{zip2}
use Rattle.std.proofs.lemmas.Int.{ints, to_z-of_z, to_z_pos, wrapping_add-bits, wrapping_add_onto, wrapping_mul-bits, int_wrap-add_left, int_wrap-add_right, SFits-int_wrap, fits_signed_from_abs}
use Rattle.std.proofs.Math.IntN.{*ℤ_comm}
use Rattle.std.proofs.lemmas.List.{get_or-map, get_or-replicate, length-map, length-replicate}
use Rattle.std.proofs.lemmas.Simd.{get_or-zip2, length-zip2}
use Rattle.gfxspec.proofs.Integers.{add-mul, mul-add, abs-mul_le, mul_left_comm}
use Rattle.gfxspec.specs.Raster.{Edge}
use Rattle.edges.specs.Function.{linear, IsFunctionOf, unpacked}
use Rattle.edges.specs.Signs.{IsShort, SignFunction, AreLanes, sign_at}
use Rattle.edges.specs.Value.{edge_value}
use Rattle.edges.specs.declared.PackedFunction.{PackedFunction}

-- ---- the value some steps away

value_away : (o right below : ℤ) (x y a b : ℕ) → (o +ℤ pos x *ℤ right +ℤ pos y *ℤ below) +ℤ (pos a *ℤ right +ℤ pos b *ℤ below) ≡ o +ℤ pos (x + a) *ℤ right +ℤ pos (y + b) *ℤ below
value_away o right below x y a b = omega (arith, ints, add-mul (pos x) (pos a) right, add-mul (pos y) (pos b) below)

sign_away : (c right below : ℤ) (x y a b : ℕ) → (c -ℤ pos x *ℤ right -ℤ pos y *ℤ below) +ℤ pos (x + a) *ℤ right +ℤ pos (y + b) *ℤ below ≡ c +ℤ (pos a *ℤ right +ℤ pos b *ℤ below)
sign_away c right below x y a b = omega (arith, ints, add-mul (pos x) (pos a) right, add-mul (pos y) (pos b) below)

small_away : (right below : ℤ) → unsigned_abs right ≤ 2 ^ 21 → unsigned_abs below ≤ 2 ^ 21 → (a b : ℕ) → a < 32 → b < 32 → unsigned_abs (pos a *ℤ right +ℤ pos b *ℤ below) < 2 ^ 27
small_away right below p q a b h k =
    by (pos a *ℤ right) (pos b *ℤ below) (abs-mul_le (pos a) right 31 (2 ^ 21) (omega arith) p) (abs-mul_le (pos b) below 31 (2 ^ 21) (omega arith) q)
  where
    by : (m n : ℤ) → unsigned_abs m ≤ 31 * 2 ^ 21 → unsigned_abs n ≤ 31 * 2 ^ 21 → unsigned_abs (m +ℤ n) < 2 ^ 27
    by m n p q = omega (arith, ints)

sum_fits : (c by : ℤ) → unsigned_abs c ≤ 2 ^ 27 → unsigned_abs by < 2 ^ 27 → FitsSigned w32 (c +ℤ by)
sum_fits c by p q = let small : unsigned_abs (c +ℤ by) < 2 ^ 31 = omega (arith, ints) in fits_signed_from_abs w32 (c +ℤ by) small

pub eight_fits : (r : ℤ) → unsigned_abs r ≤ 2 ^ 21 → FitsSigned w32 (pos 8 *ℤ r)
eight_fits r small = let less : unsigned_abs (pos 8 *ℤ r) < 2 ^ 31 = omega (arith, ints) in fits_signed_from_abs w32 (pos 8 *ℤ r) less

pub four_fits : (r : ℤ) → unsigned_abs r ≤ 2 ^ 21 → FitsSigned w32 (pos 4 *ℤ r)
four_fits r small = let less : unsigned_abs (pos 4 *ℤ r) < 2 ^ 31 = omega (arith, ints) in fits_signed_from_abs w32 (pos 4 *ℤ r) less

pub small_step : (r : ℤ) → unsigned_abs (pos 256 *ℤ r) ≤ 2 ^ 29 → unsigned_abs r ≤ 2 ^ 21
small_step r small = omega (arith, ints)

-- ---- without the last eight bits

short_tells : (n v k : ℤ) → IsShort n v → (pos 0 ≤ℤ (n +ℤ k)) ↔ (pos 0 ≤ℤ (v +ℤ pos 256 *ℤ k))
short_tells n v k short = let least = short.least in let most = short.most in (λ p. omega (arith, ints), λ p. omega (arith, ints))

scaled_steps : (right below : ℤ) (a b : ℕ) → pos 256 *ℤ (pos a *ℤ right +ℤ pos b *ℤ below) ≡ pos a *ℤ (pos 256 *ℤ right) +ℤ pos b *ℤ (pos 256 *ℤ below)
scaled_steps right below a b = mul-add (pos 256) (pos a *ℤ right) (pos b *ℤ below) ∙ (λ i. mul_left_comm (pos 256) (pos a) right i +ℤ mul_left_comm (pos 256) (pos b) below i)

-- a function's value without its last eight bits, from its origin without them
pub short_linear : (p : PackedFunction) (o : ℤ) (x y : ℕ) → IsShort o p.origin → IsShort (o +ℤ pos x *ℤ p.step_x +ℤ pos y *ℤ p.step_y) (linear (unpacked p) x y)
short_linear p o x y short =
    let least = short.least in
    let most = short.most in
    let steps = scaled_steps p.step_x p.step_y x y in
    record { least = omega (arith, ints, least, steps); most = omega (arith, ints, most, steps) }

-- the linear function behind the lanes, from the first value, which is short and cut off
module _ (p : PackedFunction) (e : Edge) (is : IsFunctionOf (unpacked p) e) (x y : ℕ) (value c : ℤ) (short : IsShort value (linear (unpacked p) x y)) (small : unsigned_abs c ≤ 2 ^ 27)
    (sign : (by : ℤ) → unsigned_abs by < 2 ^ 27 → (pos 0 ≤ℤ (c +ℤ by)) ↔ (pos 0 ≤ℤ (value +ℤ by))) where
  abbrev away : ℕ → ℕ → ℤ
  away a b = pos a *ℤ p.step_x +ℤ pos b *ℤ p.step_y

  near : (a b : ℕ) → a < 32 → b < 32 → unsigned_abs (away a b) < 2 ^ 27
  near = small_away p.step_x p.step_y (small_step p.step_x is.small.step_x) (small_step p.step_y is.small.step_y)

  value_there : (a b : ℕ) → linear (unpacked p) x y +ℤ pos 256 *ℤ away a b ≡ edge_value e (x + a) (y + b)
  value_there a b =
      ap (λ v. linear (unpacked p) x y +ℤ v) (scaled_steps p.step_x p.step_y a b)
      ∙ value_away p.origin (pos 256 *ℤ p.step_x) (pos 256 *ℤ p.step_y) x y a b ∙ is.value (x + a) (y + b)

  pub signs_from : SignFunction e x y
  signs_from = record {
    origin = c -ℤ pos x *ℤ p.step_x -ℤ pos y *ℤ p.step_y;
    right = p.step_x;
    below = p.step_y;
    fits = λ a b h k. subst (FitsSigned w32) (sym (sign_away c p.step_x p.step_y x y a b)) (sum_fits c (away a b) small (near a b h k));
    tells = λ a b h k.
        let cut = sign (away a b) (near a b h k) in
        let there = subst (λ v. (pos 0 ≤ℤ (value +ℤ away a b)) ↔ (pos 0 ≤ℤ v)) (value_there a b) (short_tells value (linear (unpacked p) x y) (away a b) short) in
        subst (λ v. (pos 0 ≤ℤ v) ↔ (pos 0 ≤ℤ edge_value e (x + a) (y + b))) (sym (sign_away c p.step_x p.step_y x y a b)) (λ q. there.0 (cut.0 q), λ q. cut.1 (there.1 q));
  }

-- ---- lanes

-- eight numbers, lane by lane
pub eight_are : (f : ℕ → ℤ) (j : ℕ) → j < 8 → get_or (f 0 ∷ f 1 ∷ f 2 ∷ f 3 ∷ f 4 ∷ f 5 ∷ f 6 ∷ f 7 ∷ []) j (pos 0) ≡ f j
eight_are f zero h = refl
eight_are f (suc zero) h = refl
eight_are f (suc (suc zero)) h = refl
eight_are f (suc (suc (suc zero))) h = refl
eight_are f (suc (suc (suc (suc zero)))) h = refl
eight_are f (suc (suc (suc (suc (suc zero))))) h = refl
eight_are f (suc (suc (suc (suc (suc (suc zero)))))) h = refl
eight_are f (suc (suc (suc (suc (suc (suc (suc zero))))))) h = refl
eight_are f (suc (suc (suc (suc (suc (suc (suc (suc j)))))))) h = absurd (omega arith)

pub four_are : (f : ℕ → ℤ) (j : ℕ) → j < 4 → get_or (f 0 ∷ f 1 ∷ f 2 ∷ f 3 ∷ []) j (pos 0) ≡ f j
four_are f zero h = refl
four_are f (suc zero) h = refl
four_are f (suc (suc zero)) h = refl
four_are f (suc (suc (suc zero))) h = refl
four_are f (suc (suc (suc (suc j)))) h = absurd (omega arith)

bits_of : (z : ℤ) → FitsSigned w32 z → of_z w32 z < 2 ^ 32
bits_of z fits = omega (arith, ints)

-- a number and j steps, in 32 bits that wrap
abbrev pub wrapped_lane : ℤ → ℤ → ℕ → ℤ
wrapped_lane first step j = to_z w32 ((of_z w32 first + of_z w32 step * j % 2 ^ 32) % 2 ^ 32)

pub wrapped_lane_is : (first step : ℤ) (j : ℕ) → FitsSigned w32 first → FitsSigned w32 step → j < 8 → wrapped_lane first step j ≡ int_wrap w32 (first +ℤ step *ℤ pos j)
wrapped_lane_is first step j ff fs small =
    let product = of_z w32 step * j % 2 ^ 32 in
    wrapping_add-bits w32 (of_z w32 first) product (bits_of first ff) (omega arith)
    ∙ (λ i. int_wrap w32 (to_z-of_z w32 first ff i +ℤ wrapping_mul-bits w32 (of_z w32 step) j (bits_of step fs) (omega arith) i))
    ∙ int_wrap-add_right w32 first (to_z w32 (of_z w32 step) *ℤ to_z w32 j)
    ∙ (λ i. int_wrap w32 (first +ℤ (to_z-of_z w32 step fs i *ℤ to_z_pos w32 j (omega arith) i)))

first_sign : (c right below : ℤ) (x y j : ℕ) → c +ℤ right *ℤ pos j ≡ (c -ℤ pos x *ℤ right -ℤ pos y *ℤ below) +ℤ pos (x + j) *ℤ right +ℤ pos y *ℤ below
first_sign c right below x y j = omega (arith, ints, add-mul (pos x) (pos j) right, *ℤ_comm right (pos j))

-- lanes after a step
abbrev pub stepped : ℕ → List ℤ → ℤ → List ℤ
stepped n lanes step = map (to_z w32) (zip2 (λ a b. (a + b) % 2 ^ 32) (map (of_z w32) lanes) (replicate n (of_z w32 step)))

module _ (n : ℕ) (lanes : List ℤ) (step : ℤ) (many : length lanes ≡ n) where
  long_bits : length (map (of_z w32) lanes) ≡ n
  long_bits = length-map lanes (of_z w32) ∙ many

  long_steps : length (replicate n (of_z w32 step)) ≡ n
  long_steps = length-replicate n (of_z w32 step)

  long_sums : length (zip2 (λ a b. (a + b) % 2 ^ 32) (map (of_z w32) lanes) (replicate n (of_z w32 step))) ≡ n
  long_sums = length-zip2 (λ a b. (a + b) % 2 ^ 32) (map (of_z w32) lanes) (replicate n (of_z w32 step)) (long_bits ∙ sym long_steps) ∙ long_bits

  pub long_stepped : length (stepped n lanes step) ≡ n
  long_stepped = length-map (zip2 (λ a b. (a + b) % 2 ^ 32) (map (of_z w32) lanes) (replicate n (of_z w32 step))) (to_z w32) ∙ long_sums

  pub lane_stepped : FitsSigned w32 step → (j : ℕ) (v : ℤ) → j < n → slice_index_or lanes j (pos 0) ≡ int_wrap w32 v → slice_index_or (stepped n lanes step) j (pos 0) ≡ int_wrap w32 (v +ℤ step)
  lane_stepped fits j v h is =
      let here = slice_index_or lanes j (pos 0) in
      let here_fits = subst (FitsSigned w32) (sym is) (SFits-int_wrap w32 v) in
      get_or-map (to_z w32) (zip2 (λ a b. (a + b) % 2 ^ 32) (map (of_z w32) lanes) (replicate n (of_z w32 step))) j 0 (pos 0) (omega (arith, long_sums, h))
      ∙ ap (to_z w32) (get_or-zip2 (λ a b. (a + b) % 2 ^ 32) (map (of_z w32) lanes) (replicate n (of_z w32 step)) j 0 0 0 (omega (arith, long_bits, h)) (omega (arith, long_steps, h))
      ∙ (λ i. (get_or-map (of_z w32) lanes j (pos 0) 0 (omega (arith, many, h)) i + get_or-replicate n j (of_z w32 step) 0 h i) % 2 ^ 32))
      ∙ wrapping_add_onto w32 (of_z w32 here) step (bits_of here here_fits) fits
      ∙ ap (λ z. int_wrap w32 (z +ℤ step)) (to_z-of_z w32 here here_fits ∙ is)
      ∙ int_wrap-add_left w32 v step

one_below : (o s t : ℤ) (x y : ℕ) → (o +ℤ pos x *ℤ s +ℤ pos y *ℤ t) +ℤ t ≡ o +ℤ pos x *ℤ s +ℤ pos (y + 1) *ℤ t
one_below o s t x y = omega (arith, ints)

some_across : (o s t : ℤ) (n x j y : ℕ) → (o +ℤ pos (x + j) *ℤ s +ℤ pos y *ℤ t) +ℤ pos n *ℤ s ≡ o +ℤ pos (x + n + j) *ℤ s +ℤ pos y *ℤ t
some_across o s t n x j y = omega (arith, ints, add-mul (pos x) (pos j) s, add-mul (pos x) (pos n) s, add-mul (pos (x + n)) (pos j) s)

pub signs_below : (n : ℕ) (lanes : List ℤ) (across below : ℤ) (e : Edge) (left top x y : ℕ) → FitsSigned w32 below → AreLanes n lanes across below e left top x y → AreLanes n (stepped n lanes below) across below e left top x (y + 1)
signs_below n lanes across below e left top x y fits h =
    let f = h.signs in
    record {
      signs = f;
      long = long_stepped n lanes below h.long;
      lane = λ j k. lane_stepped n lanes below h.long fits j (sign_at f (x + j) y) k (h.lane j k) ∙ ap (λ t. int_wrap w32 (sign_at f (x + j) y +ℤ t)) h.down ∙ ap (int_wrap w32) (one_below f.origin f.right f.below (x + j) y);
      right = h.right;
      down = h.down;
    }

pub signs_across : (n : ℕ) (lanes : List ℤ) (across below : ℤ) (e : Edge) (left top x y : ℕ) → FitsSigned w32 across → AreLanes n lanes across below e left top x y → AreLanes n (stepped n lanes across) across below e left top (x + n) y
signs_across n lanes across below e left top x y fits h =
    let f = h.signs in
    record {
      signs = f;
      long = long_stepped n lanes across h.long;
      lane = λ j k. lane_stepped n lanes across h.long fits j (sign_at f (x + j) y) k (h.lane j k) ∙ ap (λ t. int_wrap w32 (sign_at f (x + j) y +ℤ t)) h.right ∙ ap (int_wrap w32) (some_across f.origin f.right f.below n x j y);
      right = h.right;
      down = h.down;
    }

-- the lanes of a first value and a step
pub first_signs : (n : ℕ) → n ≤ 8 → (p : PackedFunction) (e : Edge) (is : IsFunctionOf (unpacked p) e) (x y : ℕ) (value c across : ℤ) → IsShort value (linear (unpacked p) x y) → unsigned_abs c ≤ 2 ^ 27
    → ((by : ℤ) → unsigned_abs by < 2 ^ 27 → (pos 0 ≤ℤ (c +ℤ by)) ↔ (pos 0 ≤ℤ (value +ℤ by))) → FitsSigned w32 c → FitsSigned w32 p.step_x → across ≡ pos n *ℤ p.step_x
    → (lanes : List ℤ) → length lanes ≡ n → ((j : ℕ) → j < n → slice_index_or lanes j (pos 0) ≡ wrapped_lane c p.step_x j)
    → AreLanes n lanes across p.step_y e x y x y
unfolding signs_from
first_signs n few p e is x y value c across short small sign fc fr across_is lanes long each =
    record {
      signs = signs_from p e is x y value c short small sign;
      long = long;
      lane = λ j h. each j h ∙ wrapped_lane_is c p.step_x j fc fr (omega (arith, few, h)) ∙ ap (int_wrap w32) (first_sign c p.step_x p.step_y x y j);
      right = across_is;
      down = refl;
    }
