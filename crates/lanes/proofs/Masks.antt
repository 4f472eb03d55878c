-- Bits of masks of eight lanes, and lists that are stored lane by lane.
use Rattle.std.proofs.Common.{◌≡◌, ◌∙◌, ap, sym, refl, arith, ℕ, zero, suc, ◌+◌, ◌-◌, ◌*◌, ◌%◌, ◌^◌, ◌<◌, ◌≤◌, ◌⊎◌, inl, inr, Bool, true, false, cond, lit<, List, [], ◌∷◌, ◌++◌, length, get_or, map, eqb, ltb, Fits, w8, min}
use Rattle.std.specs.Prelude.{◌==◌, ◌&&◌, nat_lt, if◌then◌else◌, bit_and}
use Rattle.std.proofs.Math.Nat.{pow-le-pow_right}
use Rattle.std.proofs.lemmas.Bool.Decides.{nat_tests}
use Rattle.std.proofs.lemmas.Nat.Bits.{and_pow, bit_at-lt, bit_at_and, bit_at_ones, bit_at_ones_above}
use Rattle.std.specs.Int.{bit_at, Width}
use Rattle.gfxspec.proofs.Integers.{below_or_last}
use mir.Val.{bits, hbits}
use Rattle.std.specs.Simd.Lanes.{zip2, mask_l, sel_l, top}
use Rattle.std.proofs.Math.ListN.{set}
use Rattle.std.proofs.lemmas.List.{get_or-set_same, get_or-set_other, get_or_append_left, get_or-append-add}
use Rattle.std.proofs.lemmas.Simd.{get_or-sel_l, tops_compared, length-zip2, length-sel_l, mask_l-mod, mask_l-lt, bit_mask_l, get_or-zip2}

one_is : (b : Bool) → (cond b 1 0 == 1) ≡ b
one_is true = refl
one_is false = refl

-- bit j of a comparison of eight lanes
pub bit_at-compared : (w : Width) (test : ℕ → ℕ → Bool) (xs ys : List ℕ) (j : ℕ) → length xs ≡ 8 → length ys ≡ 8 → j < 8 →
    (bit_at (mask_l (map (top (hbits w)) (zip2 (λ a b. cond (test a b) (2 ^ bits w - 1) 0) xs ys)) % 2 ^ 64) j == 1) ≡ test (get_or xs j 0) (get_or ys j 0)
bit_at-compared w test xs ys j lx ly h =
    let tests = zip2 test xs ys in
    let long = length-zip2 test xs ys (lx ∙ sym ly) in
    ap (λ n. bit_at n j == 1) (ap (λ ms. mask_l ms % 2 ^ 64) (tops_compared w test xs ys) ∙ mask_l-mod tests 64 (omega arith))
    ∙ ap (λ n. n == 1) (bit_mask_l tests j ∙ ap (λ b. cond b 1 0) (get_or-zip2 test xs ys j 0 0 false (omega arith) (omega arith)))
    ∙ one_is (test (get_or xs j 0) (get_or ys j 0))

pub compared_fits : (w : Width) (test : ℕ → ℕ → Bool) (xs ys : List ℕ) → length xs ≡ 8 → length ys ≡ 8 → Fits w8 (mask_l (map (top (hbits w)) (zip2 (λ a b. cond (test a b) (2 ^ bits w - 1) 0) xs ys)) % 2 ^ 64)
compared_fits w test xs ys lx ly =
    let tests = zip2 test xs ys in
    let long = length-zip2 test xs ys (lx ∙ sym ly) ∙ lx in
    let small = mask_l-lt tests in
    let is = ap (λ ms. mask_l ms % 2 ^ 64) (tops_compared w test xs ys) ∙ mask_l-mod tests 64 (omega arith) in
    let power = ap (λ n. 2 ^ n) long in
    record { fits = omega arith }

marked : (b : Bool) → top 63 (cond b (2 ^ 64 - 1) 0) ≡ b
marked true = refl
marked false = refl

eighth : (b : ℕ → Bool) (j : ℕ) → j < 8 → get_or (b 0 ∷ b 1 ∷ b 2 ∷ b 3 ∷ b 4 ∷ b 5 ∷ b 6 ∷ b 7 ∷ []) j false ≡ b j
eighth b zero h = refl
eighth b (suc zero) h = refl
eighth b (suc (suc zero)) h = refl
eighth b (suc (suc (suc zero))) h = refl
eighth b (suc (suc (suc (suc zero)))) h = refl
eighth b (suc (suc (suc (suc (suc zero))))) h = refl
eighth b (suc (suc (suc (suc (suc (suc zero)))))) h = refl
eighth b (suc (suc (suc (suc (suc (suc (suc zero))))))) h = refl
eighth b (suc (suc (suc (suc (suc (suc (suc (suc j)))))))) h = absurd (omega arith)

-- eight tests as the lanes of a comparison
abbrev pub marks : (ℕ → Bool) → List Bool
marks b =
    let mark : ℕ → Bool = λ j. top 63 (cond (b j) (2 ^ 64 - 1) 0) in
    mark 0 ∷ mark 1 ∷ mark 2 ∷ mark 3 ∷ mark 4 ∷ mark 5 ∷ mark 6 ∷ mark 7 ∷ []

marks_are : (b : ℕ → Bool) → marks b ≡ (b 0 ∷ b 1 ∷ b 2 ∷ b 3 ∷ b 4 ∷ b 5 ∷ b 6 ∷ b 7 ∷ [])
marks_are b =
    λ i. marked (b 0) i ∷ marked (b 1) i ∷ marked (b 2) i ∷ marked (b 3) i ∷ marked (b 4) i ∷ marked (b 5) i ∷ marked (b 6) i ∷ marked (b 7) i ∷ []

-- the mask of eight tests
pub mask_l-marks : (b : ℕ → Bool) (j : ℕ) → j < 8 → (bit_at (mask_l (marks b) % 2 ^ 64) j == 1) ≡ b j
mask_l-marks b j h =
    let tests = b 0 ∷ b 1 ∷ b 2 ∷ b 3 ∷ b 4 ∷ b 5 ∷ b 6 ∷ b 7 ∷ [] in
    ap (λ n. bit_at n j == 1) (ap (λ ms. mask_l ms % 2 ^ 64) (marks_are b) ∙ mask_l-mod tests 64 (omega arith))
    ∙ ap (λ n. n == 1) (bit_mask_l tests j ∙ ap (λ t. cond t 1 0) (eighth b j h))
    ∙ one_is (b j)

pub mask_l-marks_lt : (b : ℕ → Bool) → mask_l (marks b) % 2 ^ 64 < 256
mask_l-marks_lt b =
    let small = mask_l-lt (marks b) in
    omega arith

-- two masks' bits in one
pub both_bits : (x y : ℕ) (p q : Bool) → x < 2 → y < 2 → (x == 1) ≡ p → (y == 1) ≡ q → (min x y == 1) ≡ (p && q)
both_bits zero zero p q hx hy ep eq = λ i. ep i && q
both_bits zero (suc zero) p q hx hy ep eq = λ i. ep i && q
both_bits (suc zero) zero p q hx hy ep eq = λ i. ep i && eq i
both_bits (suc zero) (suc zero) p q hx hy ep eq = λ i. ep i && eq i
both_bits (suc (suc x)) y p q hx hy ep eq = absurd (omega arith)
both_bits zero (suc (suc y)) p q hx hy ep eq = absurd (omega arith)
both_bits (suc zero) (suc (suc y)) p q hx hy ep eq = absurd (omega arith)

-- a bit that isn't 1
pub not_one : (n : ℕ) → n < 2 → (n ≡ 1 → ⊥) → (n == 1) ≡ false
not_one zero h isnt = refl
not_one (suc zero) h isnt = absurd (isnt refl)
not_one (suc (suc n)) h isnt = absurd (omega arith)

-- the lowest n bits, as the code makes them
span_is : (n : ℕ) → n ≤ 8 → 1 * 2 ^ n % 2 ^ 32 - 1 ≡ 2 ^ n - 1
span_is n few =
    let small : 2 ^ n ≤ 2 ^ 8 = pow-le-pow_right {n = 2} (lit< tt) few in
    omega arith

below_or_above : (j n : ℕ) → (j < n) ⊎ (n ≤ j)
below_or_above j n = grind arith

-- bit j of a span under three masks
pub bit_at-span : (n x y z j : ℕ) (p q r : Bool) → n ≤ 8 → (j < n → (bit_at x j == 1) ≡ p) → (j < n → (bit_at y j == 1) ≡ q) → (j < n → (bit_at z j == 1) ≡ r) →
    (bit_at (bit_and (bit_and (bit_and (1 * 2 ^ n % 2 ^ 32 - 1) x) y) z) j == 1) ≡ (nat_lt j n && p && q && r)
bit_at-span n x y z j p q r few hx hy hz =
    let span = 1 * 2 ^ n % 2 ^ 32 - 1 in
    let is = ap (λ m. bit_at m j) (span_is n few) in
    let bits = bit_at_and (bit_and (bit_and span x) y) z j ∙ (λ i. min ((bit_at_and (bit_and span x) y j ∙ (λ k. min (bit_at_and span x j k) (bit_at y j))) i) (bit_at z j)) in
    ap (λ m. m == 1) bits
    ∙ elim (below_or_above j n) [
      | inl below ↦
          let lt : true ≡ nat_lt j n = grind (arith, nat_tests) in
          let one = is ∙ bit_at_ones n j below in
          let first = both_bits (bit_at span j) (bit_at x j) (nat_lt j n) p (bit_at-lt span j) (bit_at-lt x j) (ap (λ m. m == 1) one ∙ lt) (hx below) in
          let second = both_bits (min (bit_at span j) (bit_at x j)) (bit_at y j) (nat_lt j n && p) q (omega (arith, bit_at-lt span j)) (bit_at-lt y j) first (hy below) in
          both_bits (min (min (bit_at span j) (bit_at x j)) (bit_at y j)) (bit_at z j) (nat_lt j n && p && q) r (omega (arith, bit_at-lt span j)) (bit_at-lt z j) second (hz below)
      | inr above ↦
          let lt : false ≡ nat_lt j n = grind (arith, nat_tests) in
          let none = is ∙ bit_at_ones_above n j above in
          let zero_bit : min (min (min (bit_at span j) (bit_at x j)) (bit_at y j)) (bit_at z j) ≡ 0 = omega arith in
          ap (λ m. m == 1) zero_bit ∙ ap (λ b. b && p && q && r) lt
    ]

-- a bit by its place's number
pub has_place : (w k p : ℕ) → p ≡ 2 ^ k → eqb (bit_and w p) p ≡ (bit_at w k == 1)
has_place w k p is = ap (λ n. eqb (bit_and w n) n) is ∙ ap (λ n. eqb n (2 ^ k)) (and_pow w k) ∙ by (bit_at w k) (bit_at-lt w k)
  where
    positive : 0 < 2 ^ k
    positive = let low : 0 ≤ k = omega arith in let p : 2 ^ 0 ≤ 2 ^ k = pow-le-pow_right {n = 2} (lit< tt) low in omega arith

    by : (b : ℕ) → b < 2 → eqb (b * 2 ^ k) (2 ^ k) ≡ (b == 1)
    by zero h = grind (arith, nat_tests, positive)
    by (suc zero) h = grind (arith, nat_tests)
    by (suc (suc b)) h = absurd (omega arith)

abbrev pub places : List ℕ
places = 1 ∷ 2 ∷ 4 ∷ 8 ∷ 16 ∷ 32 ∷ 64 ∷ 128 ∷ []

-- the lanes that a mask picks
abbrev pub picks : Width → ℕ → List Bool
picks v w =
    let wide = w ∷ w ∷ w ∷ w ∷ w ∷ w ∷ w ∷ w ∷ [] in
    map (top (hbits v)) (zip2 (λ a b. cond (eqb a b) (2 ^ bits v - 1) 0) (zip2 bit_and wide places) places)

pub pick_is : (v : Width) (w j : ℕ) → j < 8 → get_or (picks v w) j false ≡ (bit_at w j == 1)
pick_is v w j h =
    let wide = w ∷ w ∷ w ∷ w ∷ w ∷ w ∷ w ∷ w ∷ [] in
    ap (λ ms. get_or ms j false) (tops_compared v eqb (zip2 bit_and wide places) places) ∙ by j h
  where
    by : (j : ℕ) → j < 8 → get_or (zip2 eqb (zip2 bit_and (w ∷ w ∷ w ∷ w ∷ w ∷ w ∷ w ∷ w ∷ []) places) places) j false ≡ (bit_at w j == 1)
    by zero h = has_place w 0 1 refl
    by (suc zero) h = has_place w 1 2 refl
    by (suc (suc zero)) h = has_place w 2 4 refl
    by (suc (suc (suc zero))) h = has_place w 3 8 refl
    by (suc (suc (suc (suc zero)))) h = has_place w 4 16 refl
    by (suc (suc (suc (suc (suc zero))))) h = has_place w 5 32 refl
    by (suc (suc (suc (suc (suc (suc zero)))))) h = has_place w 6 64 refl
    by (suc (suc (suc (suc (suc (suc (suc zero))))))) h = has_place w 7 128 refl
    by (suc (suc (suc (suc (suc (suc (suc (suc j)))))))) h = absurd (omega arith)

pub picked_is : (v : Width) (w j : ℕ) (xs ys : List ℕ) → j < 8 → length xs ≡ 8 → length ys ≡ 8 → get_or (sel_l (picks v w) xs ys) j 0 ≡ (if bit_at w j == 1 then get_or xs j 0 else get_or ys j 0)
picked_is v w j xs ys h lx ly =
    get_or-sel_l (picks v w) xs ys j 0 h (omega arith) (omega arith) ∙ ap (λ b. cond b (get_or xs j 0) (get_or ys j 0)) (pick_is v w j h)

-- the step of a loop that stores f of each lane
pub stored_next : (f : ℕ → ℕ) (xs : List ℕ) (j v : ℕ) → j < length xs → v ≡ f j → ((k : ℕ) → k < j → get_or xs k 0 ≡ f k) → (k : ℕ) → k < j + 1 → get_or (set xs j v) k 0 ≡ f k
stored_next f xs j v inside is before k h =
    elim (below_or_last j k h) [
      | inl below ↦ get_or-set_other xs j k v 0 (omega arith) ∙ before k below
      | inr last ↦ ap (λ i. get_or (set xs j v) i 0) last ∙ get_or-set_same xs j v 0 inside ∙ is ∙ ap f (sym last)
    ]

-- ---- an operation on lanes

module _ (n : ℕ) (f : ℕ → ℕ → ℕ) (xs : List ℕ) (long : length xs ≡ n) (j : ℕ) (h : j < n) where
  -- with as many others
  pub lane_of_both : (ys : List ℕ) → length ys ≡ n → get_or (zip2 f xs ys) j 0 ≡ f (get_or xs j 0) (get_or ys j 0)
  lane_of_both ys also = get_or-zip2 f xs ys j 0 0 0 (omega (arith, long, h)) (omega (arith, also, h))

pub long_both : (n : ℕ) (f : ℕ → ℕ → ℕ) (xs ys : List ℕ) → length xs ≡ n → length ys ≡ n → length (zip2 f xs ys) ≡ n
long_both n f xs ys lx ly = length-zip2 f xs ys (lx ∙ sym ly) ∙ lx

-- in each lane one of two, by a comparison
module _ (n : ℕ) (xs ys vs ws : List ℕ) (lx : length xs ≡ n) (ly : length ys ≡ n) (la : length vs ≡ n) (lb : length ws ≡ n) where
  abbrev pub by_less : List ℕ
  by_less = sel_l (map (top (hbits w8)) (zip2 (λ a b. cond (ltb a b) (2 ^ bits w8 - 1) 0) xs ys)) vs ws

  long_tests : length (zip2 ltb xs ys) ≡ n
  long_tests = length-zip2 ltb xs ys (lx ∙ sym ly) ∙ lx

  pub long_by_less : length by_less ≡ n
  long_by_less =
      ap (λ ms. length (sel_l ms vs ws)) (tops_compared w8 ltb xs ys)
      ∙ length-sel_l (zip2 ltb xs ys) vs ws (long_tests ∙ sym la) (long_tests ∙ sym lb) ∙ long_tests

  pub lane_by_less : (j : ℕ) → j < n → get_or by_less j 0 ≡ cond (ltb (get_or xs j 0) (get_or ys j 0)) (get_or vs j 0) (get_or ws j 0)
  lane_by_less j h =
      ap (λ ms. get_or (sel_l ms vs ws) j 0) (tops_compared w8 ltb xs ys)
      ∙ get_or-sel_l (zip2 ltb xs ys) vs ws j 0 (omega (arith, h, long_tests)) (omega (arith, h, la)) (omega (arith, h, lb))
      ∙ ap (λ b. cond b (get_or vs j 0) (get_or ws j 0)) (get_or-zip2 ltb xs ys j 0 0 false (omega (arith, h, lx)) (omega (arith, h, ly)))

-- lanes behind eight others
module _ (xs ys : List ℕ) (long : length xs ≡ 8) where
  pub lane_of_front : (j : ℕ) → j < 8 → get_or (xs ++ ys) j 0 ≡ get_or xs j 0
  lane_of_front j h = get_or_append_left xs ys 0 j (omega (arith, long, h))

  pub lane_of_back : (j : ℕ) → get_or (xs ++ ys) (8 + j) 0 ≡ get_or ys j 0
  lane_of_back j = ap (λ n. get_or (xs ++ ys) (n + j) 0) (sym long) ∙ get_or-append-add xs ys j 0

-- up by the lesser of a number and what is left to 255, and down by the lesser of a number and what is there
pub up_to_the_end : (x by : ℕ) → x < 256 → by < 256 → (x + cond (ltb by (255 - x)) by (255 - x)) % 256 ≡ min (x + by) 255
up_to_the_end x by hx hb = cases (ltb by (255 - x)) refl
  where
    less : ltb by (255 - x) ≡ true → by < 255 - x
    less e = grind (arith, nat_tests, e)

    more : ltb by (255 - x) ≡ false → 255 - x ≤ by
    more e = grind (arith, nat_tests, e)

    cases : (b : Bool) → ltb by (255 - x) ≡ b → (x + cond (ltb by (255 - x)) by (255 - x)) % 256 ≡ min (x + by) 255
    cases true e = let l = less e in let few : (x + by) % 256 ≡ min (x + by) 255 = omega (arith, l, hx, hb) in ap (λ b. (x + cond b by (255 - x)) % 256) e ∙ few
    cases false e = let l = more e in let few : (x + (255 - x)) % 256 ≡ min (x + by) 255 = omega (arith, l, hx, hb) in ap (λ b. (x + cond b by (255 - x)) % 256) e ∙ few

pub down_to_the_end : (x by : ℕ) → x < 256 → by < 256 → (cond (ltb x by) by x + (256 - by)) % 256 ≡ x - by
down_to_the_end x by hx hb = cases (ltb x by) refl
  where
    less : ltb x by ≡ true → x < by
    less e = grind (arith, nat_tests, e)

    more : ltb x by ≡ false → by ≤ x
    more e = grind (arith, nat_tests, e)

    cases : (b : Bool) → ltb x by ≡ b → (cond (ltb x by) by x + (256 - by)) % 256 ≡ x - by
    cases true e = let l = less e in let few : (by + (256 - by)) % 256 ≡ x - by = omega (arith, l, hx, hb) in ap (λ b. (cond b by x + (256 - by)) % 256) e ∙ few
    cases false e = let l = more e in let few : (x + (256 - by)) % 256 ≡ x - by = omega (arith, l, hx, hb) in ap (λ b. (cond b by x + (256 - by)) % 256) e ∙ few
