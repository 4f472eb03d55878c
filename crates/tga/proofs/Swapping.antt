-- Bytes that change places in a vector.
use Rattle.std.proofs.Common.{◌≡◌, ◌∙◌, refl, ⊎_elim, arith, ℕ, zero, suc, ◌+◌, ◌*◌, ◌/◌, ◌%◌, ◌^◌, ◌<◌, List, [], ◌∷◌, get_or}
use Rattle.std.specs.Prelude.{bit_and}
use Rattle.std.specs.List.{flat_map, range_with_len}
use Rattle.std.specs.Int.{w32, to_le_bytes}
use Rattle.std.proofs.lemmas.Nat.{and_mask}
use Rattle.std.specs.Int.Bits.{and_zero_r}
use Rattle.std.proofs.lemmas.Simd.{get_or_narrower}
use Rattle.tga.specs.Image.{kept_color}
use Rattle.std.proofs.lemmas.Bool.{cases_lt, lt-ltb, le-ltb}
use lib.Dec.{ltb}
use lib.Lanes.{Each1, top, number_l, digits_l}
use mathlib.Core.Bool.{cond}

-- one of eight
eight : (P : ℕ → Type 0) → P 0 → P 1 → P 2 → P 3 → P 4 → P 5 → P 6 → P 7 → (j : ℕ) → j < 8 → P j
eight P a b c d e f g h zero less = a
eight P a b c d e f g h (suc zero) less = b
eight P a b c d e f g h (suc (suc zero)) less = c
eight P a b c d e f g h (suc (suc (suc zero))) less = d
eight P a b c d e f g h (suc (suc (suc (suc zero)))) less = e
eight P a b c d e f g h (suc (suc (suc (suc (suc zero))))) less = f
eight P a b c d e f g h (suc (suc (suc (suc (suc (suc zero)))))) less = g
eight P a b c d e f g h (suc (suc (suc (suc (suc (suc (suc zero))))))) less = h
eight P a b c d e f g h (suc (suc (suc (suc (suc (suc (suc (suc n)))))))) less = absurd (omega (arith, less))

-- the greater of two bytes, each under its mask
abbrev greater : ℕ → ℕ → ℕ → ℕ → ℕ
greater a m b n = cond (top 7 (cond (ltb (bit_and a m) (bit_and b n)) 255 0)) (bit_and b n) (bit_and a m)

second : (b : ℕ) → cond (top 7 (cond (ltb 0 b) 255 0)) b 0 ≡ b
second b = ⊎_elim
    (λ less. rw (lt-ltb 0 b less) refl)
    (λ none. let e : 0 ≡ b = omega (arith, none) in rw (le-ltb 0 b none) e)
    (cases_lt 0 b)

first : (a : ℕ) → cond (top 7 (cond (ltb a 0) 255 0)) 0 a ≡ a
first a = rw (le-ltb a 0 (omega arith)) refl

whole : (b : ℕ) → b < 256 → bit_and b 255 ≡ b
whole b h = let small : b % 256 ≡ b = omega (arith, h) in and_mask b 8 ∙ small

takes_second : (a b : ℕ) → b < 256 → greater a 0 b 255 ≡ b
takes_second a b h = rw (and_zero_r a, whole b h) (second b)

takes_first : (a b : ℕ) → a < 256 → greater a 255 b 0 ≡ a
takes_first a b h = rw (and_zero_r b, whole a h) (first a)

four : (a b c d k l m n : ℕ) → a ≡ k → b ≡ l → c ≡ m → d ≡ n → (a ∷ b ∷ c ∷ d ∷ []) ≡ (k ∷ l ∷ m ∷ n ∷ [])
four a b c d k l m n e f g h = rw (e, f, g, h) refl

-- the bytes of a colour behind the swap
abbrev quad : List ℕ → ℕ → List ℕ
quad bytes j =
    let b : ℕ → ℕ = λ i. get_or bytes (4 * j + i) 0 in
    greater (b 0) 0 (b 2) 255 ∷ greater (b 1) 255 (b 3) 0 ∷ greater (b 2) 0 (b 0) 255 ∷ greater (b 3) 255 (b 1) 0 ∷ []

quad_is : (bytes : List ℕ) (j n : ℕ) → ((i : ℕ) → i < 4 → get_or bytes (4 * j + i) 0 ≡ n / 256 ^ i % 256) → quad bytes j ≡ kept_color (to_le_bytes w32 n)
quad_is bytes j n each =
    let b : ℕ → ℕ = λ i. get_or bytes (4 * j + i) 0 in
    let red : b 0 ≡ n % 256 = omega (arith, each 0 (omega arith)) in
    let green : b 1 ≡ n / 256 % 256 = each 1 (omega arith) in
    let blue : b 2 ≡ n / 65536 % 256 = each 2 (omega arith) in
    let alpha : b 3 ≡ n / 16777216 % 256 = each 3 (omega arith) in
    four _ _ _ _ _ _ _ _ (takes_second (b 0) (b 2) (omega (arith, blue)) ∙ blue) (takes_first (b 1) (b 3) (omega (arith, green)) ∙ green)
    (takes_second (b 2) (b 0) (omega (arith, red)) ∙ red) (takes_first (b 3) (b 1) (omega (arith, alpha)) ∙ alpha)

pub all_swapped : (colors result : List ℕ) → Each1 (λ x. x < 4294967296) colors → result ≡ flat_map (quad (digits_l 256 32 (number_l 4294967296 colors))) (range_with_len 0 8)
    → (j : ℕ) → j < 8 → (get_or result (4 * j) 0 ∷ get_or result (4 * j + 1) 0 ∷ get_or result (4 * j + 2) 0 ∷ get_or result (4 * j + 3) 0 ∷ []) ≡ kept_color (to_le_bytes w32 (get_or colors j 0))
all_swapped colors result fit is =
    let bytes = digits_l 256 32 (number_l 4294967296 colors) in
    let made : (j : ℕ) → j < 8 → quad bytes j ≡ kept_color (to_le_bytes w32 (get_or colors j 0)) = λ j h. quad_is bytes j (get_or colors j 0) (λ i k. get_or_narrower 4294967296 4 256 32 colors j i refl fit k (omega (arith, h, k))) in
    rw is (eight (λ j. (get_or (flat_map (quad bytes) (range_with_len 0 8)) (4 * j) 0 ∷ get_or (flat_map (quad bytes) (range_with_len 0 8)) (4 * j + 1) 0 ∷ get_or (flat_map (quad bytes) (range_with_len 0 8)) (4 * j + 2) 0 ∷ get_or (flat_map (quad bytes) (range_with_len 0 8)) (4 * j + 3) 0 ∷ []) ≡ kept_color (to_le_bytes w32 (get_or colors j 0)))
    (made 0 (omega arith)) (made 1 (omega arith)) (made 2 (omega arith)) (made 3 (omega arith)) (made 4 (omega arith)) (made 5 (omega arith)) (made 6 (omega arith)) (made 7 (omega arith)))
