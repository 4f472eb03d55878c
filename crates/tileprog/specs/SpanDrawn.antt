-- A span of eight pixels under a brush.
use Rattle.std.specs.Prelude.{ℕ, Bool, ◌≡◌, ◌+◌, ◌<◌, ◌&&◌, if◌then◌else◌, List, slice_index}
use Rattle.gfxspec.specs.declared.pixel.Pixel.{Pixel}
use Rattle.lanes.specs.Stencil.{StencilRule, has, stencil_after}
use Rattle.tileblock.specs.Block.{Block}
use Rattle.tileblock.specs.SpanStored.{SpanStored, lane_pixel}
use Rattle.tileprog.specs.declared.brush.Brush.{Brush}
use Rattle.tileprog.specs.Brushes.{tested_by, drawn_by}
use Rattle.tileprog.specs.Painting.{painted_with}

-- the colours where bits are set
abbrev pub painted_lane : Brush → ℕ → ℕ → Pixel → Pixel
painted_lane b bits j p = record { rgba = if has bits j then painted_with b.write p.rgba else p.rgba; ds = p.ds }

-- what the tests leave at a covered lane
abbrev pub tested_lane : Brush → ℕ → List ℕ → ℕ → Pixel → Pixel
tested_lane b cover depths j p =
    record { rgba = p.rgba; ds = if has cover j then (tested_by b (slice_index depths j) p.ds).after else p.ds }

abbrev pub drawn_lane : Brush → ℕ → List ℕ → ℕ → Pixel → Pixel
drawn_lane b cover depths j p = if has cover j then drawn_by b (slice_index depths j) p else p

-- the bits of the covered lanes that pass
pub record ArePassed (b : Brush) (old : Block) (span row cover : ℕ) (depths : List ℕ) (bits : ℕ) : Type 0 where
  pub each : (j : ℕ) → j < 8 → has bits j ≡ (has cover j && (tested_by b (slice_index depths j) (lane_pixel old span row j).ds).passed)

-- depths where bits are set
abbrev pub deepened_lane : ℕ → List ℕ → ℕ → Pixel → Pixel
deepened_lane bits depths j p =
    record { rgba = p.rgba; ds = record { depth = if has bits j then slice_index depths j else p.ds.depth; stencil = p.ds.stencil } }

-- the same, if depths are to be stored
abbrev pub kept_lane : Bool → ℕ → List ℕ → ℕ → Pixel → Pixel
kept_lane write bits depths j p = if write then deepened_lane bits depths j p else p

-- stencil values where bits are set
abbrev pub stenciled_lane : ℕ → List ℕ → ℕ → Pixel → Pixel
stenciled_lane bits stencils j p =
    record { rgba = p.rgba; ds = record { depth = p.ds.depth; stencil = if has bits j then slice_index stencils j else p.ds.stencil } }

-- stencil values after the operations of a test, where bits are set
abbrev pub operated_lane : StencilRule → ℕ → ℕ → ℕ → ℕ → Pixel → Pixel
operated_lane r cover passing deep j p =
    record { rgba = p.rgba; ds = record { depth = p.ds.depth; stencil = if has cover j then stencil_after r (has passing j) (has deep j) p.ds.stencil else p.ds.stencil } }

-- two rows of a span, one after the other, each pixel of which has had a change
pub record RowsStored (old new : Block) (span row : ℕ) (change : Pixel → Pixel) : Type 0 where
  pub mid : Block
  pub first : SpanStored old mid span row (λ j. change)
  pub waits : (j : ℕ) → j < 8 → lane_pixel mid span (row + 1) j ≡ lane_pixel old span (row + 1) j
  pub second : SpanStored mid new span (row + 1) (λ j. change)
