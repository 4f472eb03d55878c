-- Cells of a column: eight rows of a span, whose depth test has one outcome.
use Rattle.std.specs.Prelude.{ℕ, ◌≡◌, ◌+◌, ◌<◌, ◌≤◌, Bool, true, false, ◌&&◌, IfSome, IsTrue}
use Rattle.gfxspec.specs.declared.geometry.PixelRect.{PixelRect}
use Rattle.gfxspec.specs.DepthStencil.{DepthStencilSetting, depth_passes}
use Rattle.gfxspec.specs.Raster.{Triangle, edge, covers, centre}
use Rattle.classify.specs.Region.{HoldsEverywhere}
use Rattle.lanes.specs.Stencil.{StencilRule, reference_passes, stencil_after}
use Rattle.tileprog.specs.declared.brush.Brush.{Brush}
use Rattle.gfxspec.specs.Tiles.{IsIn}
use Rattle.depthplane.specs.Height.{DeepTriangle}
use Rattle.depthplane.specs.Place.{depth_of}
use Rattle.tileblock.specs.Block.{Block, pixel_at}
use Rattle.tileblock.specs.declared.pixels.DepthBounds.{DepthBounds}
use Rattle.tileprog.specs.declared.cells.Cell.{Cell}
use Rattle.tileprog.specs.declared.column.Column.{Column}
use Rattle.tileprog.specs.Edges.{passes_edges}

-- eight columns from x on, and the rows of a rectangle from one on and before another, counted within it
pub record InRows (r : PixelRect) (x from past u v : ℕ) : Type 0 where
  pub left : x ≤ u
  pub right : u < x + 8
  pub top : r.top + from ≤ v
  pub bottom : v < r.top + past

-- the depth test has one outcome at the pixels there that the triangle covers
abbrev pub AllHave : Bool → DepthStencilSetting → DeepTriangle → Block → ℕ → ℕ → ℕ → Type 0
AllHave deep s d b x from past = (u v : ℕ) → IsIn b.rect u v → InRows b.rect x from past u v → IsTrue (covers d.triangle (centre u v)) → depth_passes s (depth_of d u v) (pixel_at b u v).ds.depth ≡ deep

-- the depths of a triangle lie between two wherever it covers
abbrev pub LiesWithin : DeepTriangle → DepthBounds → Type 0
LiesWithin d w = (u v : ℕ) → IsTrue (covers d.triangle (centre u v)) → (w.least ≤ depth_of d u v) × (depth_of d u v ≤ w.greatest)

-- where depth passes everywhere, none is stored
abbrev pub IsUnwritten : DepthStencilSetting → Bool → Type 0
IsUnwritten s deep = deep ≡ true → (s.depth && s.write) ≡ false

-- the depth test has one outcome in these rows of a column, and where it passes no depth is stored
pub record HaveOutcome (deep : Bool) (b : Brush) (k : Column) (old : Block) (from past : ℕ) : Type 0 where
  pub all : AllHave deep b.state k.plane.now old k.x from past
  pub unwritten : IsUnwritten b.state deep

-- the named edges hold at all pixels there, or not all of them at any
abbrev pub AreCovered : Bool → ℕ → Triangle → PixelRect → ℕ → ℕ → ℕ → Type 0
AreCovered all mask t r x from past = (u v : ℕ) → InRows r x from past u v → passes_edges mask t (centre u v) ≡ all

-- all edges hold at each centre of a rectangle, or the triangle covers none
abbrev pub EdgesAre : Bool → Triangle → PixelRect → Type 0
EdgesAre true t r = (i : ℕ) → i < 3 → HoldsEverywhere (edge t i) r
EdgesAre false t r = (u v : ℕ) → IsIn r u v → covers t (centre u v) ≡ false

-- the named edges hold at all pixels in these rows of a column
abbrev pub AllCovered : Column → PixelRect → ℕ → ℕ → Type 0
AllCovered k r from past = AreCovered true k.mask k.plane.now.triangle r k.x from past

-- what a cell of a column tells of its eight rows
pub record Tells (c : Cell) (b : Brush) (k : Column) (old : Block) : Type 0 where
  pub covered : IfSome c.covered (λ all. AreCovered all k.mask k.plane.now.triangle old.rect k.x c.row (c.row + 8))
  pub deep : IfSome c.deep (λ deep. HaveOutcome deep b k old c.row (c.row + 8))

-- a column that the clip rectangle leaves whole, in all rows of a tile
pub record IsLong (c : Column) (r : PixelRect) : Type 0 where
  pub within : c.within ≡ 255
  pub top : c.clip.top ≡ r.top
  pub bottom : c.clip.bottom ≡ r.top + 32
  pub right : c.x + 8 ≤ r.right

-- a brush changes no pixel at which the stencil test passes and the depth test has one outcome
pub record IsStill (b : Brush) (r : StencilRule) (deep : Bool) : Type 0 where
  pub passes : (v : ℕ) → reference_passes r v ≡ true
  pub stencil : (v : ℕ) → v < 256 → stencil_after r true deep v ≡ v
  pub colors : deep ≡ true → (b.write.keep ≡ 4294967295) × (b.write.flip ≡ 0)
