-- The lesser and the greater of two lanes.
use Rattle.std.proofs.Common.{◌≡◌, ◌∙◌, ap, sym, refl, arith, ℕ, ◌-◌, ◌^◌, ◌<◌, ◌≤◌, Bool, true, false, cond, List, length, get_or, map, ltb, w32}
use Rattle.std.specs.Prelude.{min, max}
use Rattle.std.proofs.lemmas.Bool.Decides.{nat_tests}
use mir.Val.{bits, hbits}
use Rattle.std.specs.Simd.Lanes.{zip2, sel_l, top}
use Rattle.std.proofs.lemmas.Simd.{get_or-sel_l, tops_compared, length-zip2, length-sel_l, get_or-zip2}

-- lanes of `vs` where those of `xs` are less than those of `ys`, and else of `ws`
abbrev pub by_less : List ℕ → List ℕ → List ℕ → List ℕ → List ℕ
by_less xs ys vs ws = sel_l (map (top (hbits w32)) (zip2 (λ a b. cond (ltb a b) (2 ^ bits w32 - 1) 0) xs ys)) vs ws

module _ (xs ys vs ws : List ℕ) (lx : length xs ≡ 8) (ly : length ys ≡ 8) (lv : length vs ≡ 8) (lw : length ws ≡ 8) where
  long_tests : length (zip2 ltb xs ys) ≡ 8
  long_tests = length-zip2 ltb xs ys (lx ∙ sym ly) ∙ lx

  pub long_by_less : length (by_less xs ys vs ws) ≡ 8
  long_by_less =
      ap (λ ms. length (sel_l ms vs ws)) (tops_compared w32 ltb xs ys)
      ∙ length-sel_l (zip2 ltb xs ys) vs ws (long_tests ∙ sym lv) (long_tests ∙ sym lw) ∙ long_tests

  lane_by_less : (j : ℕ) → j < 8 → get_or (by_less xs ys vs ws) j 0 ≡ cond (ltb (get_or xs j 0) (get_or ys j 0)) (get_or vs j 0) (get_or ws j 0)
  lane_by_less j h =
      ap (λ ms. get_or (sel_l ms vs ws) j 0) (tops_compared w32 ltb xs ys)
      ∙ get_or-sel_l (zip2 ltb xs ys) vs ws j 0 (omega (arith, h, long_tests)) (omega (arith, h, lv)) (omega (arith, h, lw))
      ∙ ap (λ b. cond b (get_or vs j 0) (get_or ws j 0)) (get_or-zip2 ltb xs ys j 0 0 false (omega (arith, h, lx)) (omega (arith, h, ly)))

the_lesser : (x y : ℕ) → cond (ltb x y) x y ≡ min x y
the_lesser x y = by (ltb x y) (λ e. grind (arith, nat_tests, e)) (λ e. grind (arith, nat_tests, e))
  where
    by : (b : Bool) → (b ≡ true → x ≤ y) → (b ≡ false → y ≤ x) → cond b x y ≡ min x y
    by true f g = let h = f refl in omega (arith, h)
    by false f g = let h = g refl in omega (arith, h)

the_greater : (x y : ℕ) → cond (ltb x y) y x ≡ max x y
the_greater x y = by (ltb x y) (λ e. grind (arith, nat_tests, e)) (λ e. grind (arith, nat_tests, e))
  where
    by : (b : Bool) → (b ≡ true → x ≤ y) → (b ≡ false → y ≤ x) → cond b y x ≡ max x y
    by true f g = let h = f refl in omega (arith, h)
    by false f g = let h = g refl in omega (arith, h)

module _ (xs ys : List ℕ) (lx : length xs ≡ 8) (ly : length ys ≡ 8) where
  pub lesser_lane : (j : ℕ) → j < 8 → get_or (by_less xs ys xs ys) j 0 ≡ min (get_or xs j 0) (get_or ys j 0)
  lesser_lane j h = lane_by_less xs ys xs ys lx ly lx ly j h ∙ the_lesser (get_or xs j 0) (get_or ys j 0)

  pub greater_lane : (j : ℕ) → j < 8 → get_or (by_less xs ys ys xs) j 0 ≡ max (get_or xs j 0) (get_or ys j 0)
  greater_lane j h = lane_by_less xs ys ys xs lx ly ly lx j h ∙ the_greater (get_or xs j 0) (get_or ys j 0)
