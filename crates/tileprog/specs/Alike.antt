-- Triangles that do the same at each pixel of a tile.
use Rattle.std.specs.Prelude.{ℕ, ◌≡◌, ◌<◌, ◌≤◌, Bool, true, false, ◌&&◌, Option, IfSome, List, if◌then◌else◌}
use Rattle.std.specs.Int.{to_le_bytes, w32}
use Rattle.gfxspec.specs.declared.pixel.Pixel.{Pixel}
use Rattle.gfxspec.specs.declared.state.Compare.{Compare}
use Rattle.gfxspec.specs.declared.state.Compare.TheVariants.{Never, Less, Equal, LessEqual, Greater, NotEqual, GreaterEqual, Always}
use Rattle.gfxspec.specs.Color.{BlendSetting, written_color}
use Rattle.gfxspec.specs.DepthStencil.{DepthStencilSetting, FaceSetting, depth_passes}
use Rattle.gfxspec.specs.Tiles.{IsIn}
use Rattle.lanes.specs.Stencil.{StencilRule, stencil_after}
use Rattle.tileblock.specs.declared.pixels.DepthBounds.{DepthBounds}
use Rattle.tileblock.specs.Block.{Block, pixel_at}
use Rattle.binner.specs.declared.entry.StateEntry.{StateEntry}
use Rattle.binner.specs.declared.setup.TriSetup.{TriSetup}

-- the comparison that holds where another doesn't
abbrev pub opposite : Compare → Compare
opposite Never = Always
opposite Less = GreaterEqual
opposite Equal = NotEqual
opposite LessEqual = Greater
opposite Greater = LessEqual
opposite NotEqual = Equal
opposite GreaterEqual = Less
opposite Always = Never

-- depths from `least` to `greatest` pass, or fail, against all depths that may be stored
abbrev pub HasOutcome : DepthStencilSetting → ℕ → ℕ → Option DepthBounds → Bool → Type 0
HasOutcome s least greatest stored deep =
    (a b : ℕ) → least ≤ a → a ≤ greatest → IfSome stored (λ w. (w.least ≤ b) × (b ≤ w.greatest)) → depth_passes s a b ≡ deep

abbrev pub face_of : TriSetup → StateEntry → FaceSetting
face_of t e = if t.front then e.depth_stencil.front else e.depth_stencil.back

-- The stencil test always passes. Where depth passes everywhere, neither a depth nor a colour changes.
pub record IsAlike (t : TriSetup) (e : StateEntry) (deep : Bool) : Type 0 where
  pub stencil : e.depth_stencil.stencil ≡ true
  pub always : (face_of t e).func ≡ Always
  pub unwritten : deep ≡ true → (e.depth_stencil.depth && e.depth_stencil.write) ≡ false
  pub colors : deep ≡ true → (n : ℕ) → written_color e.blend t.rgba (to_le_bytes w32 n) ≡ to_le_bytes w32 n

-- the stencil values of a rectangle are bytes
abbrev pub AreBytes : Block → Type 0
AreBytes b = (u v : ℕ) → IsIn b.rect u v → (pixel_at b u v).ds.stencil < 256

-- a pixel after the operation where the stencil test passes
abbrev pub operated : StencilRule → Bool → Pixel → Pixel
operated r deep p = record { rgba = p.rgba; ds = record { depth = p.ds.depth; stencil = stencil_after r true deep p.ds.stencil } }

-- a pixel after a colour that is written whatever is stored
abbrev pub painted : BlendSetting → List ℕ → Pixel → Pixel
painted b rgba p = record { rgba = written_color b rgba p.rgba; ds = p.ds }

-- each pixel of the rectangle has had a change
pub record Changed (f : Pixel → Pixel) (old new : Block) : Type 0 where
  pub rect : new.rect ≡ old.rect
  pub pixels : (u v : ℕ) → IsIn old.rect u v → pixel_at new u v ≡ f (pixel_at old u v)
