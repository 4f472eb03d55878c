-- What a tile's program leaves of a block, and what it counts.
use Rattle.std.specs.Prelude.{ℕ, ◌≡◌, ◌<◌, ◌≤◌, ◌^◌, List, slice_index}
use Rattle.gfxspec.specs.Tiles.{IsIn}
use Rattle.tileblock.specs.Block.{Block, pixel_at}
use Rattle.binmem.specs.Lists.{words_of}
use Rattle.binner.specs.Compiled.{Compilation}
use Rattle.binner.specs.Program.{program_pixel, program_count}

-- the block behind the program of a tile, from an opening block, and the counts of the 64 issues
pub record RunsTo (c : Compilation) (tile : ℕ) (opening after : Block) (totals : List ℕ) : Type 0 where
  pub rect : after.rect ≡ opening.rect
  pub pixels : (x y : ℕ) → IsIn opening.rect x y → pixel_at after x y ≡ program_pixel c.tables (words_of c.numbers tile) x y (pixel_at opening x y)
  pub counts : (k : ℕ) → k < 64 → slice_index totals k ≡ program_count c.tables k (words_of c.numbers tile) opening.rect (pixel_at opening)
  pub few : (k : ℕ) → k < 64 → slice_index totals k ≤ 2 ^ 28
