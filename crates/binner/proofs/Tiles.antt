-- Tiles of a target: few, and each a real rectangle.
use Rattle.std.proofs.Common.{◌≡◌, ◌∙◌, ap, sym, subst, true, ℕ, suc, ◌+◌, ◌*◌, ◌/◌, ◌%◌, ◌<◌, ◌≤◌, arith, IsTrue, ◌&&◌, List, [], ◌∷◌, length, map, min, refl}
use Rattle.std.specs.Prelude.{sum, slice_index_or}
use Rattle.std.proofs.lemmas.Bool.Decides.{nat_tests}
use Rattle.std.proofs.Math.Nat.{div-lt_iff_lt-mul}
use Rattle.std.proofs.lemmas.Nat.{div-mul-add, mod-mul-add}
use Rattle.std.proofs.lemmas.List.Sums.{sum-map, sum_by-cons}
use Rattle.gfxspec.specs.declared.geometry.Size.{Size}
use Rattle.gfxspec.specs.Limits.{is_size, is_side}
use Rattle.gfxspec.specs.Tiles.{tiles_along, tile_count, tile_rect}
use Rattle.classify.specs.Region.{IsReal}

pub sides : (w h : ℕ) → (is_side w && is_side h) ≡ true → ((0 < w) × (w ≤ 4096)) × ((0 < h) × (h ≤ 4096))
sides w h e = ((grind (arith, nat_tests), grind (arith, nat_tests)), (grind (arith, nat_tests), grind (arith, nat_tests)))

-- part n of a side isn't empty
part_real : (n side : ℕ) → n < tiles_along side → side ≤ 4096 → (32 * n < min (32 * n + 32) side) × (min (32 * n + 32) side ≤ 4096)
part_real n side h k = (omega arith, omega arith)

some_along : (side : ℕ) → 0 < side → 0 < tiles_along side
some_along side h = omega arith

pub real_tile : (s : Size) (t : ℕ) → IsTrue (is_size s) → t < tile_count s → IsReal (tile_rect s t)
real_tile s t h l =
    let b = sides s.width s.height h in
    let w = tiles_along s.width in
    let some : 0 < w = some_along s.width b.0.0 in
    let c = part_real (t % w) s.width (omega (arith, some)) b.0.1 in
    let r = part_real (t / w) s.height (row_within t w (tiles_along s.height) some l) b.1.1 in
    record { wide = c.0; high = r.0; right = c.1; bottom = r.1 }
  where
    row_within : (t w n : ℕ) → 0 < w → t < w * n → t / w < n
    row_within t w n some l = (div-lt_iff_lt-mul {k = w} {x = t} {y = n} some).1 (omega (arith, l))

-- a tile by its row and column
pub placed : (s : Size) (column row right bottom : ℕ) → column < tiles_along s.width → right ≡ min (32 * column + 32) s.width → bottom ≡ min (32 * row + 32) s.height → record { left = 32 * column; top = 32 * row; right = right; bottom = bottom } ≡ tile_rect s (row * tiles_along s.width + column)
placed s column row right bottom h p q = rw (mod-mul-add row (tiles_along s.width) column h, div-mul-add row (tiles_along s.width) column h, p, q) refl

-- ---- lists that are short together

pub few_words : (xs : List (List ℕ)) (n : ℕ) → ((k : ℕ) → length (slice_index_or xs k []) ≤ n) → sum (map length xs) ≤ length xs * n
few_words [] n h = omega arith
few_words (x ∷ xs) n h = subst (λ k. k ≤ suc (length xs) * n) (sym (sum-map length (x ∷ xs) ∙ sum_by-cons length x xs ∙ ap (λ n. length x + n) (sym (sum-map length xs)))) (more (length x) (sum (map length xs)) (length xs) (h 0) (few_words xs n (λ k. h (suc k))))
  where
    more : (a b c : ℕ) → a ≤ n → b ≤ c * n → a + b ≤ suc c * n
    more a b c p q = grind arith
