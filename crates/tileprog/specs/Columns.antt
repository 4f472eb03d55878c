-- Columns of spans of a tile, under a clip rectangle.
use Rattle.std.specs.Prelude.{ℕ, ◌≡◌, ◌+◌, ◌-◌, ◌*◌, ◌<◌, ◌≤◌, ◌&&◌, nat_le, nat_lt}
use Rattle.gfxspec.specs.declared.geometry.PixelRect.{PixelRect}
use Rattle.gfxspec.specs.Limits.{side_bound}
use Rattle.gfxspec.specs.Raster.{centre}
use Rattle.gfxspec.specs.Tiles.{IsInTile}
use Rattle.depthplane.specs.Places.{Places}
use Rattle.edges.specs.Walk.{EdgePlace}
use Rattle.lanes.specs.Stencil.{has}
use Rattle.tileblock.specs.Block.{Block}
use Rattle.tileprog.specs.declared.brush.Brush.{Brush}
use Rattle.tileprog.specs.declared.column.Column.{Column}
use Rattle.tileprog.specs.declared.pixels.SpanPixels.{SpanPixels}
use Rattle.tileprog.specs.Cells.{IsLong, LiesWithin}
use Rattle.tileprog.specs.Counting.{eight, column_sum, stroke_count}
use Rattle.tileprog.specs.Edges.{passes_edges, BeganIn}
use Rattle.tileprog.specs.Strokes.{Stroke, Drew, IsNamed, IsWithin}
use Rattle.tileprog.specs.Within.{in_box}

-- the stroke of a brush over a column's triangle
abbrev pub stroke_in : Brush → Column → Stroke
stroke_in b c = record { brush = b; plane = c.plane.now; mask = c.mask; clip = c.clip }

-- a column of a triangle, over a rectangle in a tile
pub record IsColumn (c : Column) (r : PixelRect) : Type 0 where
  pub span : c.span < 4
  pub x : c.x ≡ r.left + 8 * c.span
  pub within : IsWithin c.clip r
  pub tile : IsInTile r
  pub wide : r.left + 32 ≤ side_bound
  pub high : r.top + 32 ≤ side_bound
  pub named : IsNamed c.plane.now c.mask r
  pub corners : LiesWithin c.plane.now c.corners

-- eight rows of a column that the clip rectangle leaves whole, from one on
pub record IsCell (c : Column) (r : PixelRect) (row : ℕ) : Type 0 where
  pub column : IsColumn c r
  pub long : IsLong c r
  pub last : row + 8 ≤ 32

-- a walk along the triangle's edges stands at the column in the row y, and began in the tile
pub record EdgesAt (p : EdgePlace) (c : Column) (r : PixelRect) (y : ℕ) : Type 0 where
  pub place : p ≡ record p { triangle = c.plane.now.triangle; x = c.x; y = y }
  pub begun : BeganIn p r

-- so does one along its depths
pub record WalksAt (p : Places) (c : Column) (r : PixelRect) (y : ℕ) : Type 0 where
  pub place : p ≡ record p { plane = c.plane.now; x = c.x; y = y }
  pub left : r.left ≤ p.left
  pub top : r.top ≤ p.top

-- a row of the clip rectangle, counted within the tile
pub record IsRow (c : Column) (r : PixelRect) (row : ℕ) : Type 0 where
  pub top : c.clip.top ≤ r.top + row
  pub bottom : r.top + row < c.clip.bottom

-- of a row of a column these are the pixels that the clip's columns and the named edges leave
pub record AreLeft (c : Column) (r : PixelRect) (p : SpanPixels) : Type 0 where
  pub span : p.span ≡ c.span
  pub row : IsRow c r p.row
  pub lanes : (j : ℕ) → j < 8 → has p.bits j ≡ ((nat_le c.clip.left (c.x + j) && nat_lt (c.x + j) c.clip.right) && passes_edges c.mask c.plane.now.triangle (centre (c.x + j) (r.top + p.row)))

-- the eight pixels from (x, y) on have had the stroke, and n of them passed
pub record RowDrew (s : Stroke) (old new : Block) (x y n : ℕ) : Type 0 where
  pub drew : Drew s old new (in_box x (x + 8) y (y + 1))
  pub count : n ≡ eight (λ j. stroke_count s old (x + j) y)
  pub few : n ≤ 8

-- so have those below them behind these, and n of them passed in each row
pub record RowsDrew (s : Stroke) (old new : Block) (x y n : ℕ) : Type 0 where
  pub mid : Block
  pub first : RowDrew s old mid x y n
  pub second : RowDrew s mid new x (y + 1) n

-- the clip's pixels in the eight columns from x on have
pub record ColumnDrew (s : Stroke) (old new : Block) (x n : ℕ) : Type 0 where
  pub drew : Drew s old new (in_box x (x + 8) s.clip.top s.clip.bottom)
  pub count : n ≡ column_sum x s.clip.top (s.clip.bottom - s.clip.top) (stroke_count s old)
  pub few : n ≤ 256

-- the clip's pixels in the eight columns from x on and the rows above y have had the stroke, and n of them passed
pub record SoFar (s : Stroke) (old mid : Block) (x y n : ℕ) : Type 0 where
  pub drew : Drew s old mid (in_box x (x + 8) s.clip.top y)
  pub count : n ≡ column_sum x s.clip.top (y - s.clip.top) (stroke_count s old)

-- so have, behind whatever was drawn above, those of the rows from y on and before z
pub record Continues (s : Stroke) (mid new : Block) (x y z n : ℕ) : Type 0 where
  pub rect : new.rect ≡ mid.rect
  pub order : y ≤ z
  pub few : n ≤ 8 * (z - y)
  pub so_far : (old : Block) (before : ℕ) → SoFar s old mid x y before → SoFar s old new x z (before + n)
