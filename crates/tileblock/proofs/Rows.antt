-- Where a span of a row stands among the tiles.
use Rattle.std.proofs.Common.{◌≡◌, ◌∙◌, sym, ap, refl, arith, ℕ, ◌+◌, ◌-◌, ◌*◌, ◌/◌, ◌%◌, ◌<◌, ◌≤◌, Some, min}
use Rattle.std.proofs.lemmas.Nat.{div-mul-add, mod-mul-add}
use Rattle.gfxspec.specs.declared.geometry.PixelRect.{PixelRect}
use Rattle.gfxspec.specs.Tiles.{tiles_along, tile_of}
use Rattle.tileblock.specs.Block.{Block, pixel_at}
use Rattle.tileblock.specs.Surface.{Surface, IsSurface, block_of, pixel_of}
use Rattle.tileblock.proofs.Slots.{pixel_of-block}

column_of : (at j x : ℕ) → j < 8 → x ≡ 8 * at + j → x / 32 ≡ at / 4
column_of at j x h e = omega arith

place_in_row : (at j : ℕ) → 8 * at + j ≡ 32 * (at / 4) + 8 * (at % 4) + j
place_in_row at j = omega arith

place_in_column : (y : ℕ) → y ≡ 32 * (y / 32) + y % 32
place_in_column y = omega arith

-- the j-th pixel of span `at` of row y, in the block of its tile
pub span_pixel : (s : Surface) (along at j x y : ℕ) (b : Block) → IsSurface s → along ≡ tiles_along s.size.width → at / 4 < along → j < 8 → x ≡ 8 * at + j → block_of s (y / 32 * along + at / 4) ≡ Some b → pixel_of s x y ≡ pixel_at b (b.rect.left + 8 * (at % 4) + j) (b.rect.top + y % 32)
span_pixel s along at j x y b is e less h f found =
    let tile = y / 32 * along + at / 4 in
    let here : tile_of s.size x y ≡ tile = ap (λ n. y / 32 * n + x / 32) (sym e) ∙ ap (λ n. y / 32 * along + n) (column_of at j x h f) in
    let rect = is.rects tile b found in
    let left : b.rect.left ≡ 32 * (at / 4) = ap (λ (r : PixelRect). r.left) rect ∙ ap (λ n. 32 * (tile % n)) (sym e) ∙ ap (λ n. 32 * n) (mod-mul-add (y / 32) along (at / 4) less) in
    let top : b.rect.top ≡ 32 * (y / 32) = ap (λ (r : PixelRect). r.top) rect ∙ ap (λ n. 32 * (tile / n)) (sym e) ∙ ap (λ n. 32 * n) (div-mul-add (y / 32) along (at / 4) less) in
    pixel_of-block s tile x y b here found
    ∙ ap (λ n. pixel_at b n y) (f ∙ place_in_row at j ∙ ap (λ n. n + 8 * (at % 4) + j) (sym left))
    ∙ ap (pixel_at b (b.rect.left + 8 * (at % 4) + j)) (place_in_column y ∙ ap (λ n. n + y % 32) (sym top))

pub along_is : (side : ℕ) → side / 32 + min 1 (side % 32) ≡ tiles_along side
along_is side = omega arith

-- a pixel of a span, counted from its first
pub cut_at : (at x : ℕ) → 8 * at ≤ x → x < 8 * (at + 1) → (x - 8 * at < 8) × (x ≡ 8 * at + (x - 8 * at))
cut_at at x h k = (omega arith, omega arith)

-- the j-th of the eight pixels of which one is at x, y
pub place_pixel : (s : Surface) (x y j : ℕ) (b : Block) → IsSurface s → x < s.size.width → j < 8 → block_of s (tile_of s.size x y) ≡ Some b → pixel_of s (8 * (x / 8) + j) y ≡ pixel_at b (b.rect.left + 8 * (x % 32 / 8) + j) (b.rect.top + y % 32)
place_pixel s x y j b is less h found =
    let along = tiles_along s.size.width in
    let place : x / 8 / 4 ≡ x / 32 = omega arith in
    let column : x / 8 % 4 ≡ x % 32 / 8 = omega arith in
    let inside : x / 8 / 4 < along = omega (arith, less) in
    let here : block_of s (y / 32 * along + x / 8 / 4) ≡ Some b = ap (λ n. block_of s (y / 32 * along + n)) place ∙ found in
    span_pixel s along (x / 8) j (8 * (x / 8) + j) y b is refl inside h refl here
    ∙ ap (λ n. pixel_at b (b.rect.left + 8 * n + j) (b.rect.top + y % 32)) column
