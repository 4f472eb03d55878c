-- A triangle under a brush, over the pixels of a clip rectangle.
use Rattle.std.specs.Prelude.{ℕ, ◌≡◌, ◌≤◌, ◌<◌, Bool, ◌&&◌, IsTrue, if◌then◌else◌}
use Rattle.gfxspec.specs.declared.geometry.PixelRect.{PixelRect}
use Rattle.gfxspec.specs.declared.pixel.Pixel.{Pixel}
use Rattle.gfxspec.specs.Items.{is_in_rect}
use Rattle.gfxspec.specs.Raster.{centre, covers}
use Rattle.gfxspec.specs.Tiles.{IsIn}
use Rattle.depthplane.specs.Height.{DeepTriangle, AreDepths}
use Rattle.depthplane.specs.Place.{depth_of}
use Rattle.tileblock.specs.Block.{Block, pixel_at}
use Rattle.tileprog.specs.declared.brush.Brush.{Brush}
use Rattle.tileprog.specs.Brushes.{tested_by, drawn_by}
use Rattle.tileprog.specs.Edges.{passes_edges}

pub record Stroke : Type 0 where
  pub brush : Brush
  pub plane : DeepTriangle
  pub mask : ℕ
  pub clip : PixelRect

-- the pixel lies in the clip rectangle, and the named edges hold at its centre
abbrev pub reached : Stroke → ℕ → ℕ → Bool
reached s x y = is_in_rect s.clip x y && passes_edges s.mask s.plane.triangle (centre x y)

abbrev pub depth_there : Stroke → ℕ → ℕ → ℕ
depth_there s x y = depth_of s.plane x y

-- a pixel after the stroke
abbrev pub stroked : Stroke → ℕ → ℕ → Pixel → Pixel
stroked s x y old = if reached s x y then drawn_by s.brush (depth_there s x y) old else old

-- the stroke reaches the pixel, and passes both tests there
abbrev pub stroke_passes : Stroke → ℕ → ℕ → Pixel → Bool
stroke_passes s x y old = reached s x y && (tested_by s.brush (depth_there s x y) old.ds).passed

-- one rectangle lies in another
pub record IsWithin (clip r : PixelRect) : Type 0 where
  pub left : r.left ≤ clip.left
  pub wide : clip.left < clip.right
  pub right : clip.right ≤ r.right
  pub top : r.top ≤ clip.top
  pub high : clip.top < clip.bottom
  pub bottom : clip.bottom ≤ r.bottom

-- where the named edges hold in the rectangle the triangle covers, and its depths are depths
pub record IsNamed (plane : DeepTriangle) (mask : ℕ) (r : PixelRect) : Type 0 where
  pub covered : (x y : ℕ) → IsIn r x y → IsTrue (passes_edges mask plane.triangle (centre x y)) → IsTrue (covers plane.triangle (centre x y))
  pub depths : AreDepths plane

-- the pixels of `done` have had the stroke, and no other
pub record Drew (s : Stroke) (old new : Block) (done : ℕ → ℕ → Bool) : Type 0 where
  pub rect : new.rect ≡ old.rect
  pub pixels : (u v : ℕ) → IsIn old.rect u v → pixel_at new u v ≡ (if done u v then stroked s u v (pixel_at old u v) else pixel_at old u v)

-- all pixels of the rectangle have
pub record Stroked (s : Stroke) (old new : Block) : Type 0 where
  pub rect : new.rect ≡ old.rect
  pub pixels : (u v : ℕ) → IsIn old.rect u v → pixel_at new u v ≡ stroked s u v (pixel_at old u v)
