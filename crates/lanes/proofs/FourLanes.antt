-- Lanes of four that a comparison picks.
use Rattle.std.proofs.Common.{◌≡◌, ◌∙◌, ap, sym, arith, ℕ, ◌^◌, ◌<◌, ◌-◌, Bool, false, cond, List, [], ◌∷◌, length, get_or, map, w32}
use Rattle.std.specs.Simd.Lanes.{zip2, sel_l, top}
use Rattle.std.proofs.lemmas.List.{get_or-replicate}
use Rattle.std.proofs.lemmas.Simd.{get_or-sel_l, tops_compared, length-zip2, get_or-zip2}

abbrev pub four : ℕ → List ℕ
four n = n ∷ n ∷ n ∷ n ∷ []

pub four_are : (n j : ℕ) → j < 4 → get_or (four n) j 0 ≡ n
four_are n j h = get_or-replicate 4 j n 0 h

module _ (test : ℕ → ℕ → Bool) (xs ys : List ℕ) (lx : length xs ≡ 4) (ly : length ys ≡ 4) where
  long : length (zip2 test xs ys) ≡ 4
  long = length-zip2 test xs ys (lx ∙ sym ly) ∙ lx

  pub chosen : (vs ws : List ℕ) → length vs ≡ 4 → length ws ≡ 4 → (j : ℕ) → j < 4
      → get_or (sel_l (map (top 31) (zip2 (λ a b. cond (test a b) (2 ^ 32 - 1) 0) xs ys)) vs ws) j 0 ≡ cond (test (get_or xs j 0) (get_or ys j 0)) (get_or vs j 0) (get_or ws j 0)
  chosen vs ws lv lw j h =
      ap (λ ms. get_or (sel_l ms vs ws) j 0) (tops_compared w32 test xs ys)
      ∙ get_or-sel_l (zip2 test xs ys) vs ws j 0 (omega (arith, long)) (omega (arith, lv)) (omega (arith, lw))
      ∙ ap (λ t. cond t (get_or vs j 0) (get_or ws j 0)) (get_or-zip2 test xs ys j 0 0 false (omega (arith, lx)) (omega (arith, ly)))

  pub ones : (j : ℕ) → j < 4
      → get_or (sel_l (map (top 31) (zip2 (λ a b. cond (test a b) (2 ^ 32 - 1) 0) xs ys)) (four 1) (four 0)) j 0 ≡ cond (test (get_or xs j 0) (get_or ys j 0)) 1 0
  ones j h =
      chosen (four 1) (four 0) (omega arith) (omega arith) j h
      ∙ (λ i. cond (test (get_or xs j 0) (get_or ys j 0)) (four_are 1 j h i) (four_are 0 j h i))
