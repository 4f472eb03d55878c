-- When a triangle can't pass the depth test at any pixel of a tile, by what its depths and the tile's lie between.
use Rattle.std.specs.Prelude.{ℕ, ◌≡◌, ◌≤◌, ◌==◌, Bool, true, false, ◌&&◌, ◌||◌, nat_le, nat_lt, min, max, Option, Some, IsTrue, if◌then◌else◌}
use Rattle.gfxspec.specs.declared.state.Compare.{Compare}
use Rattle.gfxspec.specs.declared.state.Compare.TheVariants.{Never, Less, Equal, LessEqual, Greater, NotEqual, GreaterEqual, Always}
use Rattle.gfxspec.specs.DepthStencil.{DepthStencilSetting, compares}
use Rattle.gfxspec.specs.declared.geometry.PixelRect.{PixelRect}
use Rattle.gfxspec.specs.Raster.{centre, covers}
use Rattle.gfxspec.specs.Tiles.{IsIn}
use Rattle.depthplane.specs.Place.{depth_of}
use Rattle.binner.specs.declared.setup.TriSetup.{TriSetup}
use Rattle.tileword.specs.declared.edge_mask.EdgeMask.{EdgeMask}
use Rattle.tileblock.specs.declared.pixels.DepthBounds.{DepthBounds}

-- no depth from `least` to `greatest` passes against any from `low` to `high`
abbrev pub NonePasses : Compare → ℕ → ℕ → ℕ → ℕ → Type 0
NonePasses func least greatest low high =
    (a b : ℕ) → least ≤ a → a ≤ greatest → low ≤ b → b ≤ high → compares func a b ≡ false

-- by what the ranges have in common
abbrev pub none_passes : Compare → ℕ → ℕ → ℕ → ℕ → Bool
none_passes Never least greatest low high = true
none_passes Less least greatest low high = nat_le high least
none_passes Equal least greatest low high = nat_lt greatest low || nat_lt high least
none_passes LessEqual least greatest low high = nat_lt high least
none_passes Greater least greatest low high = nat_le greatest low
none_passes NotEqual least greatest low high = (least == greatest) && ((low == high) && (least == low))
none_passes GreaterEqual least greatest low high = nat_lt greatest low
none_passes Always least greatest low high = false

-- the state tests depth alone
pub record TestsDepthAlone (s : DepthStencilSetting) : Type 0 where
  pub stencil : s.stencil ≡ false
  pub depth : s.depth ≡ true

-- the depths of a triangle at the pixels of a rectangle that it covers lie between two
abbrev pub DepthsLie : TriSetup → PixelRect → ℕ → ℕ → Type 0
DepthsLie t r least greatest =
    (u v : ℕ) → IsIn r u v → IsTrue (covers t.plane.triangle (centre u v)) → (least ≤ depth_of t.plane u v) × (depth_of t.plane u v ≤ greatest)

-- the triangle's depths pass against none of the stored ones
pub record IsHidden (s : DepthStencilSetting) (least greatest : ℕ) (stored : Option DepthBounds) : Type 0 where
  pub alone : TestsDepthAlone s
  pub was : DepthBounds
  pub known : stored ≡ Some was
  pub none : none_passes s.func least greatest was.least was.greatest ≡ true

-- ---- what the depths of a tile lie between after a triangle

-- a depth that passes where less is asked for is no greater than the stored one
abbrev pub greatest_after : Compare → Bool → ℕ → ℕ → ℕ
greatest_after Never whole high greatest = max high greatest
greatest_after Less whole high greatest = if whole then min high greatest else high
greatest_after Equal whole high greatest = max high greatest
greatest_after LessEqual whole high greatest = if whole then min high greatest else high
greatest_after Greater whole high greatest = max high greatest
greatest_after NotEqual whole high greatest = max high greatest
greatest_after GreaterEqual whole high greatest = max high greatest
greatest_after Always whole high greatest = max high greatest

-- `whole` where the triangle reaches each pixel of the tile
pub record AreAfter (s : DepthStencilSetting) (least greatest : ℕ) (whole : Bool) (stored : Option DepthBounds) (after : DepthBounds) : Type 0 where
  pub alone : TestsDepthAlone s
  pub write : s.write ≡ true
  pub was : DepthBounds
  pub known : stored ≡ Some was
  pub low : after.least ≡ min was.least least
  pub high : after.greatest ≡ greatest_after s.func whole was.greatest greatest

-- no edge cuts the rectangle, nor does the clip rectangle
pub record IsWhole (r clip : PixelRect) (m : EdgeMask) : Type 0 where
  pub edge0 : m.edge0 ≡ false
  pub edge1 : m.edge1 ≡ false
  pub edge2 : m.edge2 ≡ false
  pub left : clip.left ≤ r.left
  pub top : clip.top ≤ r.top
  pub right : r.right ≤ clip.right
  pub bottom : r.bottom ≤ clip.bottom
