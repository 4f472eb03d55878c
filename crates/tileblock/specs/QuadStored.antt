-- A block whose four pixels of one quad have changed, and no other.
use Rattle.std.specs.Prelude.{ℕ, ◌≡◌, ◌≢◌, ◌+◌, ◌*◌, ◌<◌, ◌≤◌, ◌⊎◌}
use Rattle.gfxspec.specs.declared.pixel.Pixel.{Pixel}
use Rattle.gfxspec.specs.Tiles.{IsIn}
use Rattle.tileblock.specs.Block.{Block, pixel_at}

-- the pixel in lane j of a quad of a row, both counted within the tile
abbrev pub quad_pixel : Block → ℕ → ℕ → ℕ → Pixel
quad_pixel b quad row j = pixel_at b (b.rect.left + 4 * quad + j) (b.rect.top + row)

-- what a change makes of each lane's pixel
pub record QuadStored (old new : Block) (quad row : ℕ) (change : ℕ → Pixel → Pixel) : Type 0 where
  pub rect : new.rect ≡ old.rect
  pub here : (j : ℕ) → j < 4 → quad_pixel new quad row j ≡ change j (quad_pixel old quad row j)
  pub elsewhere : (u v : ℕ) → IsIn old.rect u v → (v ≢ old.rect.top + row) ⊎ ((u < old.rect.left + 4 * quad) ⊎ (old.rect.left + 4 * quad + 4 ≤ u)) → pixel_at new u v ≡ pixel_at old u v
