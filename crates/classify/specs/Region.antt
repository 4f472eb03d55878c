-- What a triangle's edges do over a rectangle of pixels.
use Rattle.std.specs.Prelude.{◌≡◌, ℕ, ◌≤◌, ◌<◌, IsTrue, IsFalse, ℤ, pos, ◌≤ℤ◌}
use Rattle.std.specs.Int.{bit_at}
use Rattle.gfxspec.specs.declared.geometry.PixelRect.{PixelRect}
use Rattle.gfxspec.specs.Limits.{side_bound}
use Rattle.gfxspec.specs.Raster.{Edge, Triangle, edge, edge_holds, centre}
use Rattle.gfxspec.specs.Tiles.{IsIn}
use Rattle.edges.specs.Value.{edge_value}
use Rattle.classify.specs.declared.Class.{Class}
use Rattle.classify.specs.declared.Class.TheVariants.{Outside, Cut}

-- a rectangle that isn't empty, among the first 4,096 pixels each way
pub record IsReal (r : PixelRect) : Type 0 where
  pub wide : r.left < r.right
  pub high : r.top < r.bottom
  pub right : r.right ≤ side_bound
  pub bottom : r.bottom ≤ side_bound

-- v is the greatest value of e at a centre of r
pub record IsGreatest (e : Edge) (r : PixelRect) (v : ℤ) : Type 0 where
  pub x : ℕ
  pub y : ℕ
  pub inside : IsIn r x y
  pub reached : v ≡ edge_value e x y
  pub bound : (u w : ℕ) → IsIn r u w → edge_value e u w ≤ℤ v
  pub tells : (u w : ℕ) → (pos 0 ≤ℤ edge_value e u w → IsTrue (edge_holds e (centre u w))) × (IsTrue (edge_holds e (centre u w)) → pos 0 ≤ℤ edge_value e u w)

-- v is the least value of e at a centre of r
pub record IsLeast (e : Edge) (r : PixelRect) (v : ℤ) : Type 0 where
  pub x : ℕ
  pub y : ℕ
  pub inside : IsIn r x y
  pub reached : v ≡ edge_value e x y
  pub bound : (u w : ℕ) → IsIn r u w → v ≤ℤ edge_value e u w
  pub tells : (u w : ℕ) → (pos 0 ≤ℤ edge_value e u w → IsTrue (edge_holds e (centre u w))) × (IsTrue (edge_holds e (centre u w)) → pos 0 ≤ℤ edge_value e u w)

-- an edge holds at every centre, at none, at some; it fails at some
abbrev pub HoldsEverywhere : Edge → PixelRect → Type 0
HoldsEverywhere e r = (x y : ℕ) → IsIn r x y → IsTrue (edge_holds e (centre x y))

abbrev pub HoldsNowhere : Edge → PixelRect → Type 0
HoldsNowhere e r = (x y : ℕ) → IsIn r x y → IsFalse (edge_holds e (centre x y))

abbrev pub HoldsSomewhere : Edge → PixelRect → Type 0
HoldsSomewhere e r = (x : ℕ) × (y : ℕ) × IsIn r x y × IsTrue (edge_holds e (centre x y))

abbrev pub FailsSomewhere : Edge → PixelRect → Type 0
FailsSomewhere e r = (x : ℕ) × (y : ℕ) × IsIn r x y × IsFalse (edge_holds e (centre x y))

-- bit i of the mask is set exactly where edge i fails at some centre
pub record IsMaskBit (mask i : ℕ) (e : Edge) (r : PixelRect) : Type 0 where
  pub somewhere : HoldsSomewhere e r
  pub set : bit_at mask i ≡ 1 → FailsSomewhere e r
  pub clear : bit_at mask i ≡ 0 → HoldsEverywhere e r

-- the class of a rectangle: outside exactly where some edge holds at no centre
abbrev pub IsClassOf : Class → Triangle → PixelRect → Type 0
IsClassOf Outside t r = (i : ℕ) × (i < 3) × HoldsNowhere (edge t i) r
IsClassOf (Cut mask) t r = (mask < 8) × ((i : ℕ) → i < 3 → IsMaskBit mask i (edge t i) r)
