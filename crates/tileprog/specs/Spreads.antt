-- A triangle over the columns of a tile.
use Rattle.std.specs.Prelude.{ℕ, ◌≡◌, ◌+◌, ◌*◌, ◌<◌, ◌≤◌}
use Rattle.gfxspec.specs.declared.geometry.PixelRect.{PixelRect}
use Rattle.gfxspec.specs.Limits.{side_bound}
use Rattle.gfxspec.specs.Tiles.{IsInTile}
use Rattle.depthplane.specs.Places.{Places}
use Rattle.edges.specs.Walk.{EdgePlace}
use Rattle.meaning.specs.Over.{sum_over}
use Rattle.tileblock.specs.Block.{Block}
use Rattle.tileprog.specs.declared.draw.TileTriangle.{TileTriangle}
use Rattle.tileprog.specs.Cells.{LiesWithin}
use Rattle.tileprog.specs.Counting.{stroke_count}
use Rattle.tileprog.specs.Strokes.{Stroke, IsWithin, IsNamed, Stroked}

abbrev pub stroke_of : TileTriangle → Stroke
stroke_of t = record { brush = t.brush.now; plane = t.plane.now; mask = t.mask; clip = t.clip }

-- the spans hold the clip rectangle, which lies in a tile
pub record IsOver (t : TileTriangle) (r : PixelRect) : Type 0 where
  pub within : IsWithin t.clip r
  pub tile : IsInTile r
  pub wide : r.left + 32 ≤ side_bound
  pub high : r.top + 32 ≤ side_bound
  pub named : IsNamed t.plane.now t.mask r
  pub corners : LiesWithin t.plane.now t.corners
  pub begun : r.left + 8 * t.first ≤ t.clip.left
  pub begins : t.clip.left < r.left + 8 * t.first + 8
  pub ends : r.left + 8 * t.past < t.clip.right + 8
  pub ended : t.clip.right ≤ r.left + 8 * t.past
  pub few : t.past ≤ 4

-- where the walks begin
abbrev pub edges_begin : TileTriangle → PixelRect → EdgePlace
edges_begin t r = record { triangle = t.plane.now.triangle; left = r.left + 8 * t.first; top = t.clip.top; x = r.left + 8 * t.first; y = t.clip.top }

abbrev pub walk_begins : TileTriangle → PixelRect → Places
walk_begins t r = record { plane = t.plane.now; left = r.left + 8 * t.first; top = t.clip.top; x = r.left + 8 * t.first; y = t.clip.top }

-- the triangle has been drawn, and n of its pixels passed
pub record SpreadDrew (s : Stroke) (old new : Block) (n : ℕ) : Type 0 where
  pub drew : Stroked s old new
  pub count : n ≡ sum_over old.rect (stroke_count s old)
  pub few : n ≤ 1024
