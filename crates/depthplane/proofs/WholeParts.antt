-- The whole parts of numbers in 2^32nds, lane by lane: their high halves, cast to 32 bits.
use Rattle.std.proofs.Common.{arith, ◌≡◌, ◌∙◌, ap, sym, subst, ℕ, ◌^◌, ◌/◌, ◌%◌, ◌<◌, ◌≤◌, length, map, slice_index, List, w64, w32}
use Rattle.std.specs.Prelude.{bit_and, replicate}
use Rattle.std.proofs.lemmas.Nat.{and_mask}
use Rattle.std.proofs.lemmas.List.{get_or-map}
use Rattle.std.proofs.lemmas.Simd.{get_or-zip2, get_or-replicate, length-replicate, length-zip2, Each1-from_get_or}
use borrow.Rule.Simd.Lanes.{act1, act2, Asks1}
use borrow.Table.Row.{s_int}
use lib.Lanes.{zip2, Each1}
use mir.Facts.{Fits-below}
use mir.Syntax.{shr, unsigned, cast, bit_and as and}

abbrev shift : ℕ → ℕ → ℕ
shift = act2 (shr unsigned) (s_int w64) (s_int w64) (s_int w64)

abbrev mask : ℕ → ℕ → ℕ
mask = act2 and (s_int w64) (s_int w64) (s_int w64)

-- the high halves of n numbers
abbrev high : ℕ → List ℕ → List ℕ
high n xs = zip2 shift xs (replicate n 32)

abbrev whole : ℕ → List ℕ → List ℕ
whole n xs = zip2 mask (high n xs) (replicate n 4294967295)

module _ (n : ℕ) (xs : List ℕ) (long : length xs ≡ n) where
  long_high : length (high n xs) ≡ n
  long_high = length-zip2 shift xs (replicate n 32) (long ∙ sym (length-replicate n 32)) ∙ long

  long_whole : length (whole n xs) ≡ n
  long_whole = length-zip2 mask (high n xs) (replicate n 4294967295) (long_high ∙ sym (length-replicate n 4294967295)) ∙ long_high

  lane : (j : ℕ) → j < n → slice_index (whole n xs) j ≡ slice_index xs j / 4294967296 % 4294967296
  lane j h =
      get_or-zip2 mask (high n xs) (replicate n 4294967295) j 0 0 0 (subst (λ m. j < m) (sym long_high) h) (subst (λ m. j < m) (sym (length-replicate n 4294967295)) h)
      ∙ ap (bit_and (slice_index (high n xs) j)) (get_or-replicate n j 4294967295 0 h)
      ∙ and_mask (slice_index (high n xs) j) 32
      ∙ ap (λ m. m % 4294967296)
      (get_or-zip2 shift xs (replicate n 32) j 0 0 0 (subst (λ m. j < m) (sym long) h) (subst (λ m. j < m) (sym (length-replicate n 32)) h)
      ∙ ap (λ m. slice_index xs j / 2 ^ m) (get_or-replicate n j 32 0 h))

  below : (a b : ℕ) → a ≡ b % 4294967296 → a ≤ 4294967295
  below a b is = omega arith

  -- each of them is one of 32 bits
  pub they_fit : Each1 (Asks1 (cast unsigned unsigned w32) (s_int w64)) (whole n xs)
  they_fit = Each1-from_get_or (Asks1 (cast unsigned unsigned w32) (s_int w64)) (whole n xs) 0
      (λ j h. Fits-below {n = 4294967295} tt (below _ (slice_index xs j / 4294967296) (lane j (subst (λ m. j < m) long_whole h))))

  -- and is the quotient but for multiples of 2^32
  pub they_are : (j : ℕ) → j < n → slice_index (map (act1 (cast unsigned unsigned w32) (s_int w64) (s_int w32)) (whole n xs)) j ≡ slice_index xs j / 4294967296 % 4294967296
  they_are j h =
      get_or-map (act1 (cast unsigned unsigned w32) (s_int w64) (s_int w32)) (whole n xs) j 0 0 (subst (λ m. j < m) (sym long_whole) h)
      ∙ lane j h
