-- Where a row of a tile stands in a row of its target.
use Rattle.std.proofs.Common.{◌≡◌, ◌∙◌, sym, ap, ⊎_elim, arith, ℕ, ◌+◌, ◌-◌, ◌*◌, ◌/◌, ◌%◌, ◌<◌, ◌≤◌, List, [], get_or, Some}
use Rattle.std.proofs.lemmas.Bool.{cases_lt}
use Rattle.std.specs.Int.{w32, to_le_bytes}
use Rattle.gfxspec.specs.Tiles.{tiles_along}
use Rattle.gfxspec.specs.declared.pixel.Pixel.{Pixel}
use Rattle.tileblock.specs.Block.{Block, pixel_at}
use Rattle.tileblock.specs.Surface.{Surface, IsSurface, block_of, pixel_of}
use Rattle.tileblock.proofs.Rows.{span_pixel}
use Rattle.tga.specs.Image.{kept_color}

-- the j-th pixel of row y of the tile in a column, in the tile's block
pub tile_pixel : (s : Surface) (along column j x y : ℕ) (b : Block) → IsSurface s → along ≡ tiles_along s.size.width → column < along → j < 32 → x ≡ 32 * column + j → block_of s (y / 32 * along + column) ≡ Some b → pixel_of s x y ≡ pixel_at b (b.rect.left + j) (b.rect.top + y % 32)
tile_pixel s along column j x y b is e less h f found =
    let at = 4 * column + j / 8 in
    let above : at / 4 ≡ column = omega arith in
    let here : block_of s (y / 32 * along + at / 4) ≡ Some b = ap (λ n. block_of s (y / 32 * along + n)) above ∙ found in
    let place : b.rect.left + 8 * (at % 4) + j % 8 ≡ b.rect.left + j = omega arith in
    span_pixel s along at (j % 8) x y b is e (omega (arith, above, less)) (omega arith) (omega (arith, f)) here ∙ ap (λ n. pixel_at b n (b.rect.top + y % 32)) place

-- where a tile's row y is stored, each pixel of the target is that lies in its columns
pub tile_stored : (s : Surface) (stored : List (List ℕ)) (along column x y : ℕ) (b : Block) → IsSurface s → along ≡ tiles_along s.size.width → column < along → 32 * column ≤ x → x < 32 * (column + 1) → block_of s (y / 32 * along + column) ≡ Some b
    → ((j : ℕ) → j < 32 → get_or stored (32 * column + j) [] ≡ kept_color (pixel_at b (b.rect.left + j) (b.rect.top + y % 32)).rgba)
    → get_or stored x [] ≡ kept_color (pixel_of s x y).rgba
tile_stored s stored along column x y b is e less h k found here =
    let j : ℕ = x - 32 * column in
    let inside : j < 32 = omega (arith, h, k) in
    let place : x ≡ 32 * column + j = omega (arith, h) in
    ap (λ i. get_or stored i []) place ∙ here j inside ∙ ap (λ (p : Pixel). kept_color p.rgba) (sym (tile_pixel s along column j x y b is e less inside place found))

-- eight more colours of a tile's row are stored behind n that are
pub one_span_more : (old new : List (List ℕ)) (at n y : ℕ) (colors : List ℕ) (b : Block)
    → ((j : ℕ) → j < n → get_or old (at + j) [] ≡ kept_color (pixel_at b (b.rect.left + j) (b.rect.top + y)).rgba)
    → ((j : ℕ) → j < 8 → to_le_bytes w32 (get_or colors j 0) ≡ (pixel_at b (b.rect.left + n + j) (b.rect.top + y)).rgba)
    → ((j : ℕ) → j < 8 → get_or new (at + n + j) [] ≡ kept_color (to_le_bytes w32 (get_or colors j 0)))
    → ((x : ℕ) → x < at + n → get_or new x [] ≡ get_or old x [])
    → (j : ℕ) → j < n + 8 → get_or new (at + j) [] ≡ kept_color (pixel_at b (b.rect.left + j) (b.rect.top + y)).rgba
one_span_more old new at n y colors b done read stored before j less = ⊎_elim
    (λ h. before (at + j) (omega (arith, h)) ∙ done j h)
    (λ h.
    let i : ℕ = j - n in
    let below : i < 8 = omega (arith, h, less) in
    let place : at + j ≡ at + n + i = omega (arith, h) in
    let pixel : b.rect.left + n + i ≡ b.rect.left + j = omega (arith, h) in
    ap (λ k. get_or new k []) place ∙ stored i below ∙ ap kept_color (read i below) ∙ ap (λ k. kept_color (pixel_at b k (b.rect.top + y)).rgba) pixel)
    (cases_lt j n)
