-- A triangle over a tile in columns of four pixels.
use Rattle.std.specs.Prelude.{ℕ, ◌≡◌, ◌+◌, ◌-◌, ◌*◌, ◌<◌, ◌≤◌, ◌==◌, Bool, if◌then◌else◌, List, slice_index}
use Rattle.gfxspec.specs.declared.geometry.PixelRect.{PixelRect}
use Rattle.gfxspec.specs.declared.pixel.Pixel.{Pixel}
use Rattle.gfxspec.specs.Limits.{side_bound}
use Rattle.gfxspec.specs.Tiles.{IsInTile}
use Rattle.depthplane.specs.Places.{Places}
use Rattle.edges.specs.Walk.{EdgePlace}
use Rattle.tileblock.specs.Block.{Block}
use Rattle.tileprog.specs.declared.brush.Brush.{Brush}
use Rattle.tileprog.specs.declared.draw.TileTriangle.{TileTriangle}
use Rattle.tileprog.specs.Brushes.{drawn_by}
use Rattle.tileprog.specs.Counting.{stroke_count}
use Rattle.tileprog.specs.Painting.{painted_with}
use Rattle.tileprog.specs.Strokes.{Stroke, Drew, IsWithin, IsNamed}
use Rattle.tileprog.specs.Sums.{box_sum}
use Rattle.tileprog.specs.Within.{in_box}

-- a lane that is picked has a 1
abbrev pub picked : List ℕ → ℕ → Bool
picked lanes j = slice_index lanes j == 1

abbrev pub sum4 : List ℕ → ℕ
sum4 lanes = slice_index lanes 0 + slice_index lanes 1 + slice_index lanes 2 + slice_index lanes 3

-- depths where lanes are picked, if depths are to be stored
abbrev pub deepened_quad : Bool → List ℕ → List ℕ → ℕ → Pixel → Pixel
deepened_quad write lanes depths j p =
    if write then (record { rgba = p.rgba; ds = record { depth = if picked lanes j then slice_index depths j else p.ds.depth; stencil = p.ds.stencil } }) else p

-- the colours where lanes are picked
abbrev pub painted_quad : Brush → List ℕ → ℕ → Pixel → Pixel
painted_quad b lanes j p = record { rgba = if picked lanes j then painted_with b.write p.rgba else p.rgba; ds = p.ds }

abbrev pub drawn_quad : Brush → List ℕ → List ℕ → ℕ → Pixel → Pixel
drawn_quad b cover depths j p = if picked cover j then drawn_by b (slice_index depths j) p else p

-- the quads hold the clip rectangle, which lies in a tile
pub record IsQuads (t : TileTriangle) (r : PixelRect) : Type 0 where
  pub within : IsWithin t.clip r
  pub tile : IsInTile r
  pub wide : r.left + 32 ≤ side_bound
  pub high : r.top + 32 ≤ side_bound
  pub named : IsNamed t.plane.now t.mask r
  pub begun : r.left + 4 * t.first ≤ t.clip.left
  pub begins : t.clip.left < r.left + 4 * t.first + 4
  pub ends : r.left + 4 * t.past < t.clip.right + 4
  pub ended : t.clip.right ≤ r.left + 4 * t.past
  pub few : t.past ≤ 8

-- walks that began where the triangle's quads do, at a quad in a row
abbrev pub edges_at : TileTriangle → PixelRect → ℕ → ℕ → EdgePlace
edges_at t r quad y = record { triangle = t.plane.now.triangle; left = r.left + 4 * t.first; top = t.clip.top; x = r.left + 4 * quad; y = y }

abbrev pub walk_at : TileTriangle → PixelRect → ℕ → ℕ → Places
walk_at t r quad y = record { plane = t.plane.now; left = r.left + 4 * t.first; top = t.clip.top; x = r.left + 4 * quad; y = y }

-- the clip's pixels in the four columns from x on have had the stroke, and n of them passed
pub record QuadDrew (s : Stroke) (old new : Block) (x n : ℕ) : Type 0 where
  pub drew : Drew s old new (in_box x (x + 4) s.clip.top s.clip.bottom)
  pub count : n ≡ box_sum x 4 s.clip.top (s.clip.bottom - s.clip.top) (stroke_count s old)
  pub few : n ≤ 128
