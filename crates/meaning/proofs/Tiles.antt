-- A sum over a target is the sum over its tiles.
use Rattle.std.proofs.Common.{◌≡◌, ◌∙◌, ap, sym, refl, arith, ℕ, zero, suc, ◌+◌, ◌-◌, ◌*◌, ◌/◌, ◌%◌, ◌<◌, ◌≤◌, min, Bool, true, false}
use Rattle.std.specs.Prelude.{nat_le}
use Rattle.std.proofs.lemmas.Bool.Decides.{nat_tests}
use Rattle.std.proofs.lemmas.Nat.{div-mul-add, mod-mul-add}
use Rattle.gfxspec.specs.declared.geometry.Size.{Size}
use Rattle.gfxspec.specs.Tiles.{tiles_along, tile_count, tile_rect}
use Rattle.gfxspec.specs.Items.{sum_below}
use Rattle.meaning.specs.Over.{sum_over}
use Rattle.meaning.proofs.Sums.{same_sums, sum_parts, sum_swap}

-- the length of part j of a side
abbrev part : ℕ → ℕ → ℕ
part side j = min (32 * j + 32) side - 32 * j

sum_of_two : (a b c d : ℕ) → a ≡ c → b ≡ d → a + b ≡ c + d
sum_of_two a b c d p q = omega arith

no_more : (side n : ℕ) → side ≤ 32 * n → (min (32 * suc n) side ≡ min (32 * n) side) × (part side n ≡ 0)
no_more side n h = (omega arith, omega arith)

one_more : (side n : ℕ) → 32 * n < side → (min (32 * suc n) side ≡ 32 * n + part side n) × (min (32 * n) side ≡ 32 * n)
one_more side n h = (omega arith, omega arith)

yes : (side n : ℕ) → nat_le side (32 * n) ≡ true → side ≤ 32 * n
yes side n h = grind (arith, nat_tests)

above : (side n : ℕ) → nat_le side (32 * n) ≡ false → 32 * n < side
above side n h = grind (arith, nat_tests)

plus_none : (a : ℕ) → a ≡ a + 0
plus_none a = omega arith

-- a side in parts of 32
parts : (side n : ℕ) (g : ℕ → ℕ) → sum_below (min (32 * n) side) g ≡ sum_below n (λ j. sum_below (part side j) (λ x. g (32 * j + x)))
parts side zero g = ap (λ k. sum_below k g) (nothing side)
  where
    nothing : (side : ℕ) → min (32 * 0) side ≡ 0
    nothing side = omega arith
parts side (suc n) g = step (nat_le side (32 * n)) refl (parts side n g)
  where
    step : (b : Bool) → nat_le side (32 * n) ≡ b → sum_below (min (32 * n) side) g ≡ sum_below n (λ j. sum_below (part side j) (λ x. g (32 * j + x))) → sum_below (min (32 * suc n) side) g ≡ sum_below n (λ j. sum_below (part side j) (λ x. g (32 * j + x))) + sum_below (part side n) (λ x. g (32 * n + x))
    step true h before =
        let e = no_more side n (yes side n h) in
        ap (λ k. sum_below k g) e.0 ∙ before
        ∙ plus_none _ ∙ ap (λ k. sum_below n (λ j. sum_below (part side j) (λ x. g (32 * j + x))) + sum_below k (λ x. g (32 * n + x))) (sym e.1)
    step false h before =
        let e = one_more side n (above side n h) in
        ap (λ k. sum_below k g) e.0 ∙ sum_parts (32 * n) (part side n) g
        ∙ sum_of_two _ _ _ _ (ap (λ k. sum_below k g) (sym e.1) ∙ before) refl

whole : (side : ℕ) → side ≡ min (32 * tiles_along side) side
whole side = omega arith

in_parts : (side : ℕ) (g : ℕ → ℕ) → sum_below side g ≡ sum_below (tiles_along side) (λ j. sum_below (part side j) (λ x. g (32 * j + x)))
in_parts side g = ap (λ k. sum_below k g) (whole side) ∙ parts side (tiles_along side) g

-- numbers by rows
next_row : (w n : ℕ) → w * suc n ≡ n * w + w
next_row w n = grind arith

by_rows : (w n : ℕ) (b : ℕ → ℕ → ℕ) → sum_below (w * n) (λ t. b (t / w) (t % w)) ≡ sum_below n (λ i. sum_below w (λ j. b i j))
by_rows w zero b = ap (λ k. sum_below k (λ t. b (t / w) (t % w))) (no_row w)
  where
    no_row : (w : ℕ) → w * 0 ≡ 0
    no_row w = omega arith
by_rows w (suc n) b =
    ap (λ k. sum_below k (λ t. b (t / w) (t % w))) (next_row w n)
    ∙ sum_parts (n * w) w (λ t. b (t / w) (t % w))
    ∙ sum_of_two _ _ _ _ (ap (λ k. sum_below k (λ t. b (t / w) (t % w))) turned ∙ by_rows w n b) (same_sums w _ _ (λ j h. ap₂' (div-mul-add n w j h) (mod-mul-add n w j h)))
  where
    turned : n * w ≡ w * n
    turned = grind arith

    ap₂' : {i k m l : ℕ} → i ≡ m → k ≡ l → b i k ≡ b m l
    ap₂' p q = rw (p, q) refl

pub over_tiles : (s : Size) (f : ℕ → ℕ → ℕ) → sum_below s.height (λ y. sum_below s.width (λ x. f x y)) ≡ sum_below (tile_count s) (λ t. sum_over (tile_rect s t) f)
over_tiles s f =
    in_parts s.height (λ y. sum_below s.width (λ x. f x y))
    ∙ same_sums h _ _ (λ i a.
    same_sums (part s.height i) _ _ (λ y c. in_parts s.width (λ x. f x (32 * i + y)))
    ∙ sum_swap (part s.height i) w (λ y j. sum_below (part s.width j) (λ x. f (32 * j + x) (32 * i + y))))
    ∙ sym (by_rows w h (λ i j. sum_below (part s.height i) (λ y. sum_below (part s.width j) (λ x. f (32 * j + x) (32 * i + y)))))
  where
    w : ℕ
    w = tiles_along s.width

    h : ℕ
    h = tiles_along s.height
