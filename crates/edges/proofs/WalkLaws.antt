-- What the signs of three edges tell at eight pixels.
use Rattle.std.proofs.Common.{◌≡◌, ◌≢◌, ◌∙◌, ap, sym, subst, refl, arith, ℕ, ◌+◌, ◌-◌, ◌%◌, ◌^◌, ◌<◌, ◌≤◌, Bool, true, false, cond, List, [], ◌∷◌, length, map, get_or, w32, to_z, of_z, FitsSigned, Fits, w8}
use Rattle.std.specs.Prelude.{ℤ, pos, ◌≤ℤ◌, ◌↔◌, IsTrue, slice_index_or, ◌&&◌, not, nat_lt, bit_or, ◌==◌, int_le}
use Rattle.std.specs.Int.{bit_at}
use Rattle.std.specs.Ordering.{int_eq}
use Rattle.std.specs.Simd.Lanes.{zip2, mask_l, sel_l, top}
use Rattle.std.proofs.lemmas.Bool.Decides.{nat_tests}
use Rattle.std.proofs.lemmas.Int.{ints, int_wrap_fits}
use Rattle.std.proofs.lemmas.Nat.{or_lt, le_or_l, le_or_r}
use Rattle.std.proofs.lemmas.List.{get_or-map, get_or-replicate, length-map}
use Rattle.std.proofs.lemmas.Simd.{get_or-sel_l, get_or-zip2, length-zip2, tops_compared, mask_l-mod, mask_l-lt, bit_mask_l}
use Rattle.gfxspec.specs.Raster.{Edge, Triangle, area, centre, covers, edge, edge_holds, is_empty, side_of}
use Rattle.edges.specs.Signs.{AreLanes, sign_at}
use Rattle.edges.specs.Value.{edge_value}
use Rattle.edges.proofs.EdgeLaws.{value_tells}
use Rattle.edges.proofs.FunctionLaws.{whole_first, whole_second}

-- ---- signs and bits

-- a number of 32 bits is at least 0 where its uppermost bit is clear
clear_bit : (v : ℤ) (h : Bool) → FitsSigned w32 v → (pos 0 ≤ℤ v) ↔ IsTrue h → nat_lt (of_z w32 v) (2 ^ 31) ≡ h
clear_bit v h fits tells = grind (arith, ints, nat_tests)

or_clear : (a b : ℕ) → nat_lt (bit_or a b) (2 ^ 31) ≡ (nat_lt a (2 ^ 31) && nat_lt b (2 ^ 31))
or_clear a b = let l = le_or_l a b in let r = le_or_r a b in let both = or_lt 31 a b in grind (arith, nat_tests)

not_below : (n : ℕ) → int_le (to_z w32 0) (to_z w32 n) ≡ nat_lt n (2 ^ 31)
not_below n = grind (arith, ints, nat_tests)

one_is : (b : Bool) → (cond b 1 0 == 1) ≡ b
one_is true = refl
one_is false = refl

-- the mask of a comparison of eight lanes
module _ (test : ℕ → ℕ → Bool) (xs ys : List ℕ) (lx : length xs ≡ 8) (ly : length ys ≡ 8) where
  abbrev pub compared : ℕ
  compared = mask_l (map (top 31) (zip2 (λ a b. cond (test a b) (2 ^ 32 - 1) 0) xs ys)) % 2 ^ 64

  tests_long : length (zip2 test xs ys) ≡ 8
  tests_long = length-zip2 test xs ys (lx ∙ sym ly) ∙ lx

  compared_is : compared ≡ mask_l (zip2 test xs ys)
  compared_is = ap (λ ms. mask_l ms % 2 ^ 64) (tops_compared w32 test xs ys) ∙ mask_l-mod (zip2 test xs ys) 64 (omega (arith, tests_long))

  pub compared_fits : Fits w8 compared
  compared_fits =
      let small = mask_l-lt (zip2 test xs ys) in
      let power = ap (λ n. 2 ^ n) tests_long in
      record { fits = omega (arith, compared_is, small, power) }

  pub bit_at-compared : (j : ℕ) → j < 8 → (bit_at compared j == 1) ≡ test (get_or xs j 0) (get_or ys j 0)
  bit_at-compared j h =
      ap (λ n. bit_at n j == 1) compared_is
      ∙ ap (λ n. n == 1) (bit_mask_l (zip2 test xs ys) j ∙ ap (λ b. cond b 1 0) (get_or-zip2 test xs ys j 0 0 false (omega (arith, lx)) (omega (arith, ly))))
      ∙ one_is (test (get_or xs j 0) (get_or ys j 0))

-- a 1 for each of four lanes at which a comparison holds
abbrev pub four : ℕ → List ℕ
four n = n ∷ n ∷ n ∷ n ∷ []

module _ (test : ℕ → ℕ → Bool) (xs ys : List ℕ) (lx : length xs ≡ 4) (ly : length ys ≡ 4) where
  abbrev pub ones : List ℕ
  ones = sel_l (map (top 31) (zip2 (λ a b. cond (test a b) (2 ^ 32 - 1) 0) xs ys)) (four 1) (four 0)

  long_tests : length (zip2 test xs ys) ≡ 4
  long_tests = length-zip2 test xs ys (lx ∙ sym ly) ∙ lx

  one_or_none : (b : Bool) (j : ℕ) → j < 4 → cond b (get_or (four 1) j 0) (get_or (four 0) j 0) ≡ cond b 1 0
  one_or_none b j h = λ i. cond b (get_or-replicate 4 j 1 0 h i) (get_or-replicate 4 j 0 0 h i)

  -- where all lanes of the first are n
  pub ones_of : (n j : ℕ) → j < 4 → xs ≡ four n → get_or ones j 0 ≡ cond (test n (get_or ys j 0)) 1 0
  ones_of n j h e =
      ap (λ ms. get_or (sel_l ms (four 1) (four 0)) j 0) (tops_compared w32 test xs ys)
      ∙ get_or-sel_l (zip2 test xs ys) (four 1) (four 0) j 0 (omega (arith, long_tests, h)) (omega (arith, h)) (omega (arith, h))
      ∙ ap (λ t. cond t (get_or (four 1) j 0) (get_or (four 0) j 0)) (get_or-zip2 test xs ys j 0 0 false (omega (arith, lx, h)) (omega (arith, ly, h)))
      ∙ one_or_none (test (get_or xs j 0) (get_or ys j 0)) j h
      ∙ ap (λ x. cond (test x (get_or ys j 0)) 1 0) (ap (λ l. get_or l j 0) e ∙ get_or-replicate 4 j n 0 h)

-- ---- three edges

abbrev pub bits_in : List ℤ → List ℕ
bits_in = map (of_z w32)

abbrev pub any_below : List ℤ → List ℤ → List ℤ → List ℕ
any_below xs ys zs = zip2 bit_or (zip2 bit_or (bits_in xs) (bits_in ys)) (bits_in zs)

module _ (n : ℕ) (xs ys zs : List ℤ) (lx : length xs ≡ n) (ly : length ys ≡ n) (lz : length zs ≡ n) where
  long_x : length (bits_in xs) ≡ n
  long_x = length-map xs (of_z w32) ∙ lx

  long_y : length (bits_in ys) ≡ n
  long_y = length-map ys (of_z w32) ∙ ly

  long_z : length (bits_in zs) ≡ n
  long_z = length-map zs (of_z w32) ∙ lz

  long_two : length (zip2 bit_or (bits_in xs) (bits_in ys)) ≡ n
  long_two = length-zip2 bit_or (bits_in xs) (bits_in ys) (long_x ∙ sym long_y) ∙ long_x

  pub long_any : length (any_below xs ys zs) ≡ n
  long_any = length-zip2 bit_or (zip2 bit_or (bits_in xs) (bits_in ys)) (bits_in zs) (long_two ∙ sym long_z) ∙ long_two

  any_lane : (j : ℕ) → j < n → get_or (any_below xs ys zs) j 0 ≡ bit_or (bit_or (of_z w32 (slice_index_or xs j (pos 0))) (of_z w32 (slice_index_or ys j (pos 0)))) (of_z w32 (slice_index_or zs j (pos 0)))
  any_lane j h =
      get_or-zip2 bit_or (zip2 bit_or (bits_in xs) (bits_in ys)) (bits_in zs) j 0 0 0 (omega (arith, long_two, h)) (omega (arith, long_z, h))
      ∙ (λ i. bit_or (get_or-zip2 bit_or (bits_in xs) (bits_in ys) j 0 0 0 (omega (arith, long_x, h)) (omega (arith, long_y, h)) i) (get_or-map (of_z w32) zs j (pos 0) 0 (omega (arith, lz, h)) i))
      ∙ (λ i. bit_or (bit_or (get_or-map (of_z w32) xs j (pos 0) 0 (omega (arith, lx, h)) i) (get_or-map (of_z w32) ys j (pos 0) 0 (omega (arith, ly, h)) i)) (of_z w32 (slice_index_or zs j (pos 0))))

  three_clear : (a b c : ℕ) → nat_lt (bit_or (bit_or a b) c) (2 ^ 31) ≡ ((nat_lt a (2 ^ 31) && nat_lt b (2 ^ 31)) && nat_lt c (2 ^ 31))
  three_clear a b c = or_clear (bit_or a b) c ∙ ap (λ t. t && nat_lt c (2 ^ 31)) (or_clear a b)

  pub any_tells : (j : ℕ) (p q r : Bool) → j < n → nat_lt (of_z w32 (slice_index_or xs j (pos 0))) (2 ^ 31) ≡ p → nat_lt (of_z w32 (slice_index_or ys j (pos 0))) (2 ^ 31) ≡ q → nat_lt (of_z w32 (slice_index_or zs j (pos 0))) (2 ^ 31) ≡ r
      → int_le (to_z w32 0) (to_z w32 (get_or (any_below xs ys zs) j 0)) ≡ ((p && q) && r)
  any_tells j p q r h ep eq er =
      ap (λ m. int_le (to_z w32 0) (to_z w32 m)) (any_lane j h)
      ∙ not_below _
      ∙ three_clear (of_z w32 (slice_index_or xs j (pos 0))) (of_z w32 (slice_index_or ys j (pos 0))) (of_z w32 (slice_index_or zs j (pos 0)))
      ∙ (λ i. (ep i && eq i) && er i)

-- ---- an edge's lane near the beginning
pub lane_tells : (n : ℕ) (lanes : List ℤ) (across below : ℤ) (e : Edge) (left top x y : ℕ) → AreLanes n lanes across below e left top x y → side_of e e.opposite ≢ pos 0 → left ≤ x → top ≤ y → (j : ℕ) → j < n → x + j < left + 32 → y < top + 32
    → nat_lt (of_z w32 (slice_index_or lanes j (pos 0))) (2 ^ 31) ≡ edge_holds e (centre (x + j) y)
lane_tells n lanes across below e left top x y h not_flat px py j few near_x near_y =
    let a = x + j - left in
    let b = y - top in
    let along : left + a ≡ x + j = omega arith in
    let under : top + b ≡ y = omega arith in
    let f = h.signs in
    let At : ℕ → ℕ → Type 0 = λ u v. FitsSigned w32 (sign_at f u v) in
    let fits : At (x + j) y = subst (λ u. At u y) along (subst (At (left + a)) under (f.fits a b (omega arith) (omega arith))) in
    let Tells : ℕ → ℕ → Type 0 = λ u v. (pos 0 ≤ℤ sign_at f u v) ↔ (pos 0 ≤ℤ edge_value e u v) in
    let tells : Tells (x + j) y = subst (λ u. Tells u y) along (subst (Tells (left + a)) under (f.tells a b (omega arith) (omega arith))) in
    let holds = value_tells e (centre (x + j) y) not_flat in
    ap (λ v. nat_lt (of_z w32 v) (2 ^ 31)) (h.lane j few ∙ int_wrap_fits w32 (sign_at f (x + j) y) fits)
    ∙ clear_bit (sign_at f (x + j) y) (edge_holds e (centre (x + j) y)) fits (λ p. holds.0 (tells.0 p), λ t. tells.1 (holds.1 t))

-- ---- a triangle that has an area
module _ (t : Triangle) (real : area t ≢ pos 0) where
  pub first_not_flat : side_of (edge t 0) (edge t 0).opposite ≢ pos 0
  first_not_flat z = real (whole_first t (area t) refl ∙ z)

  pub second_not_flat : side_of (edge t 1) (edge t 1).opposite ≢ pos 0
  second_not_flat z = real (whole_second t (area t) refl ∙ z)

  pub third_not_flat : side_of (edge t 2) (edge t 2).opposite ≢ pos 0
  third_not_flat z = real z

  not_zero : (x : ℤ) → x ≢ pos 0 → int_eq x (pos 0) ≡ false
  not_zero x n = grind (arith, ints)

  three : (e p q r : Bool) → e ≡ false → ((p && q) && r) ≡ (not e && (p && (q && r)))
  three e true q r z = ap (λ e. not e && (q && r)) (sym z)
  three e false q r z = ap (λ e. not e && false) (sym z)

  pub all_cover : (u v : ℕ) → ((edge_holds (edge t 0) (centre u v) && edge_holds (edge t 1) (centre u v)) && edge_holds (edge t 2) (centre u v)) ≡ covers t (centre u v)
  all_cover u v = three (is_empty t) (edge_holds (edge t 0) (centre u v)) (edge_holds (edge t 1) (centre u v)) (edge_holds (edge t 2) (centre u v)) (not_zero (area t) real)
