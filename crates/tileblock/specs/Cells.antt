-- What the depths of a cell lie between, which is eight rows of a span (this project's own).
use Rattle.std.specs.Prelude.{ℕ, ◌≡◌, ◌+◌, ◌*◌, ◌<◌, ◌≤◌, Option, Some, None, slice_index_or, replicate}
use Rattle.tileblock.specs.declared.pixels.Cells.{Cells}
use Rattle.tileblock.specs.declared.pixels.DepthBounds.{DepthBounds}
use Rattle.tileblock.specs.Block.{Block}
use Rattle.tileblock.specs.SpanStored.{lane_pixel}

-- the depths of the eight rows of a span from row 8 * cell on
abbrev pub CellLies : Block → ℕ → ℕ → ℕ → ℕ → Type 0
CellLies b span cell least greatest =
    (k j : ℕ) → k < 8 → j < 8 → (least ≤ (lane_pixel b span (8 * cell + k) j).ds.depth) × ((lane_pixel b span (8 * cell + k) j).ds.depth ≤ greatest)

-- so do those of each cell of which something is known
abbrev pub CellsLie : Block → Cells → Type 0
CellsLie b c =
    (span cell : ℕ) (d : DepthBounds) → span < 4 → cell < 4 → slice_index_or c.bounds (4 * cell + span) None ≡ Some d → CellLies b span cell d.least d.greatest

-- what is known of each cell, where nothing may be known of any
abbrev pub cells_of : Option Cells → Cells
cells_of None = record { bounds = replicate 16 None }
cells_of (Some c) = c
