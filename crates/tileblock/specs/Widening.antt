-- What the depths of rows lie between, lane by lane.
use Rattle.std.specs.Prelude.{ℕ, ◌<◌, ◌≤◌, slice_index}
use Rattle.tileblock.specs.declared.extremes.Extremes.{Extremes}
use Rattle.tileblock.specs.Block.{Block}
use Rattle.tileblock.specs.SpanStored.{lane_pixel}

-- the depths of all four spans of a row lie between the lanes
pub record HoldsRow (b : Block) (row : ℕ) (e : Extremes) : Type 0 where
  pub least : (span j : ℕ) → span < 4 → j < 8 → slice_index e.least j ≤ (lane_pixel b span row j).ds.depth
  pub greatest : (span j : ℕ) → span < 4 → j < 8 → (lane_pixel b span row j).ds.depth ≤ slice_index e.greatest j

-- so do those of one span of it
pub record HoldsSpan (b : Block) (span row : ℕ) (e : Extremes) : Type 0 where
  pub least : (j : ℕ) → j < 8 → slice_index e.least j ≤ (lane_pixel b span row j).ds.depth
  pub greatest : (j : ℕ) → j < 8 → (lane_pixel b span row j).ds.depth ≤ slice_index e.greatest j

-- what lies between the lanes of one lies between those of the other
pub record IsWider (narrow wide : Extremes) : Type 0 where
  pub least : (j : ℕ) → j < 8 → slice_index wide.least j ≤ slice_index narrow.least j
  pub greatest : (j : ℕ) → j < 8 → slice_index narrow.greatest j ≤ slice_index wide.greatest j
