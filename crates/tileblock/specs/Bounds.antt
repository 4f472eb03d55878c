-- What the depths of a block's rectangle lie between (this project's own).
use Rattle.std.specs.Prelude.{ℕ, ◌≡◌, ◌≤◌, Option, Some, length}
use Rattle.gfxspec.specs.Tiles.{IsIn}
use Rattle.tileblock.specs.declared.pixels.DepthBounds.{DepthBounds}
use Rattle.tileblock.specs.declared.pixels.Cells.{Cells}
use Rattle.tileblock.specs.Block.{Block, IsBlock, pixel_at}
use Rattle.tileblock.specs.Cells.{CellsLie}

abbrev pub LieBetween : Block → ℕ → ℕ → Type 0
LieBetween b least greatest =
    (x y : ℕ) → IsIn b.rect x y → (least ≤ (pixel_at b x y).ds.depth) × ((pixel_at b x y).ds.depth ≤ greatest)

-- what the type of a block keeps, with what it knows of its depths and of those of its cells
pub record IsBoundedBlock (b : Block) (bounds : Option DepthBounds) (cells : Option Cells) : Type 0 where
  pub block : IsBlock b
  pub between : (d : DepthBounds) → bounds ≡ Some d → LieBetween b d.least d.greatest
  pub places : (c : Cells) → cells ≡ Some c → length c.bounds ≡ 16
  pub each : (c : Cells) → cells ≡ Some c → CellsLie b c
