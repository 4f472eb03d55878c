-- The tiles that a job draws on, and their blocks (this project's own).
use Rattle.std.specs.Prelude.{ℕ, ◌≡◌, ◌<◌, List, length, All, slice_index}
use Rattle.gfxspec.specs.declared.geometry.Size.{Size}
use Rattle.gfxspec.specs.Tiles.{tile_count}
use Rattle.tileblock.specs.Block.{Block}

-- what contracts see of a target's block is all of it
abbrev pub ShowsBlocks : (Block → Block) → Type 0
ShowsBlocks shown = (b : Block) → shown b ≡ b

-- numbers of a target's tiles, each once
pub record AreTiles (size : Size) (tiles : List ℕ) : Type 0 where
  pub in_range : All (λ t. t < tile_count size) tiles
  pub once : (p q : ℕ) → p < length tiles → q < length tiles → slice_index tiles p ≡ slice_index tiles q → p ≡ q
