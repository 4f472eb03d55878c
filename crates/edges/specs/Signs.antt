-- The signs of an edge's values at pixels side by side, as numbers of 32 bits.
use Rattle.std.specs.Prelude.{◌≡◌, ℕ, ◌+◌, ◌<◌, ℤ, pos, ◌+ℤ◌, ◌*ℤ◌, ◌≤ℤ◌, ◌<ℤ◌, ◌↔◌, FitsSigned, List, length, slice_index_or}
use Rattle.std.specs.Int.{w32, int_wrap}
use Rattle.gfxspec.specs.Raster.{Edge}
use Rattle.edges.specs.Value.{edge_value}
use Rattle.edges.specs.declared.signs.SignLanes.{SignLanes}
use Rattle.edges.specs.declared.signs.QuadSigns.{QuadSigns}

-- n is v without its last eight bits
pub record IsShort (n v : ℤ) : Type 0 where
  pub least : (pos 256 *ℤ n) ≤ℤ v
  pub most : v <ℤ (pos 256 *ℤ n +ℤ pos 256)

-- a linear function of the pixel whose sign is that of the edge's value, within 32 rows and columns of (left, top)
pub record SignFunction (e : Edge) (left top : ℕ) : Type 0 where
  pub origin : ℤ
  pub right : ℤ
  pub below : ℤ
  pub fits : (a b : ℕ) → a < 32 → b < 32 → FitsSigned w32 (origin +ℤ pos (left + a) *ℤ right +ℤ pos (top + b) *ℤ below)
  pub tells : (a b : ℕ) → a < 32 → b < 32 → (pos 0 ≤ℤ (origin +ℤ pos (left + a) *ℤ right +ℤ pos (top + b) *ℤ below)) ↔ (pos 0 ≤ℤ edge_value e (left + a) (top + b))

abbrev pub sign_at : {e : Edge} {left top : ℕ} → SignFunction e left top → ℕ → ℕ → ℤ
sign_at f x y = f.origin +ℤ pos x *ℤ f.right +ℤ pos y *ℤ f.below

-- the lanes have the function's values at the n pixels from (x, y) on, as far as 32 bits hold them; beside them what n pixels to the right and one row down add
pub record AreLanes (n : ℕ) (lanes : List ℤ) (across below : ℤ) (e : Edge) (left top x y : ℕ) : Type 0 where
  pub signs : SignFunction e left top
  pub long : length lanes ≡ n
  pub lane : (j : ℕ) → j < n → slice_index_or lanes j (pos 0) ≡ int_wrap w32 (sign_at signs (x + j) y)
  pub right : across ≡ pos n *ℤ signs.right
  pub down : below ≡ signs.below

abbrev pub AreSigns : SignLanes → Edge → ℕ → ℕ → ℕ → ℕ → Type 0
AreSigns l e left top x y = AreLanes 8 l.lanes l.across l.below e left top x y

abbrev pub AreQuadSigns : QuadSigns → Edge → ℕ → ℕ → ℕ → ℕ → Type 0
AreQuadSigns l e left top x y = AreLanes 4 l.lanes l.across l.below e left top x y
