-- The lists of words of all tiles, while they are written: what changes.
use Rattle.std.specs.Prelude.{ℕ, ◌≡◌, ◌≢◌, ◌<◌, ◌≤◌, ◌+◌, ◌==◌, ◌||◌, ◌⊎◌, Bool, true, false, IsTrue, List, [], ◌∷◌, ◌++◌, length, Option, Some, None, slice_index_or, if◌then◌else◌}
use Rattle.gfxspec.specs.declared.geometry.PixelRect.{PixelRect}
use Rattle.gfxspec.specs.Raster.{Triangle}
use Rattle.gfxspec.specs.Limits.{is_size}
use Rattle.gfxspec.specs.Tiles.{tile_count, IsIn}
use Rattle.gfxspec.specs.Items.{is_in_rect}
use Rattle.classify.specs.Region.{IsClassOf}
use Rattle.classify.specs.declared.Class.TheVariants.{Outside, Cut}
use Rattle.tileword.specs.declared.edge_mask.EdgeMask.{EdgeMask}
use Rattle.tileword.specs.declared.word.Word.{Word}
use Rattle.tileword.specs.declared.word.Word.TheVariants.{State, Tri, ClearC, ClearDs}
use Rattle.tileword.specs.EdgeMask.{edge_bits}
use Rattle.tileword.specs.Word.{encoded, decoded}
use Rattle.binmem.specs.Lists.{words_of}
use Rattle.binner.specs.declared.entry.Current.{Current}
use Rattle.binner.specs.declared.lists.Lists.{Lists}
use Rattle.binner.specs.Program.{program}
use Rattle.binner.specs.Cuts.{AreBothClears}

-- one tile's list, and whether a triangle in it is counted
pub record TileList : Type 0 where
  pub counted : Bool
  pub numbers : List ℕ

abbrev pub at : {A : Type 0} → Lists A → ℕ → TileList
at l k = record { counted = slice_index_or l.counted.items k false; numbers = words_of l.bins k }

-- how often a number stands in a list
abbrev pub times : ℕ → List ℕ → ℕ
times k [] = 0
times k (n ∷ ns) = (if n == k then 1 else 0) + times k ns

abbrev pub has_some : List ℕ → Bool
has_some [] = false
has_some (n ∷ ns) = true

-- a list for each tile of a target, and the tiles that have words, each once
pub record IsLists {A : Type 0} (l : Lists A) : Type 0 where
  pub size : IsTrue (is_size l.size)
  pub bins : length l.bins ≡ tile_count l.size
  pub counted : length l.counted.items ≡ tile_count l.size
  pub once : (k : ℕ) → times k l.touched.items ≡ (if has_some (words_of l.bins k) then 1 else 0)

-- no list is longer than this
abbrev pub IsShort : {A : Type 0} → ℕ → Lists A → Type 0
IsShort n l = (k : ℕ) → length (at l k).numbers ≤ n

-- tile k changes so, and no other
pub record ChangesAt {A : Type 0} (k : ℕ) (P : TileList → TileList → Type 0) (old new : Lists A) : Type 0 where
  pub size : new.size ≡ old.size
  pub here : P (at old k) (at new k)
  pub others : (j : ℕ) → j ≢ k → at new j ≡ at old j

-- each tile changes so
pub record EachChanges {A : Type 0} (P : ℕ → TileList → TileList → Type 0) (old new : Lists A) : Type 0 where
  pub size : new.size ≡ old.size
  pub each : (k : ℕ) → k < tile_count old.size → P k (at old k) (at new k)

-- ---- the triangle that stands last

-- the number of the last triangle, where no state stands behind it
abbrev pub drawn_after : Option ℕ → Word → Option ℕ
drawn_after p (State n) = None
drawn_after p (Tri n m) = Some n
drawn_after p (ClearC n) = p
drawn_after p (ClearDs n) = p

abbrev pub drawn_behind : Option ℕ → List Word → Option ℕ
drawn_behind p [] = p
drawn_behind p (w ∷ ws) = drawn_behind (drawn_after p w) ws

-- it is triangle `first` or a later one
pub record IsDrawnSince (first : ℕ) (numbers : List ℕ) : Type 0 where
  pub n : ℕ
  pub last : (p : Option ℕ) → drawn_behind p (program numbers) ≡ Some n
  pub since : first ≤ n

-- ---- changes of one tile

-- a word at the end
abbrev pub with_word : Word → TileList → TileList
with_word w o = record { counted = o.counted; numbers = o.numbers ++ encoded w ∷ [] }

abbrev pub GainsWord : Word → TileList → TileList → Type 0
GainsWord w o n = (n ≡ with_word w o) × (decoded (encoded w) ≡ Some w)

-- the current entry comes in force: by a word, if the last triangle wasn't drawn under it
abbrev pub PutsInForce : Current → TileList → TileList → Type 0
PutsInForce s o n = (IsDrawnSince s.first o.numbers × (n ≡ o)) ⊎ GainsWord (State s.entry) o n

-- the tile lies outside of the triangle, and nothing changes
pub record Stays (tri : Triangle) (r : PixelRect) (o n : TileList) : Type 0 where
  pub outside : IsClassOf Outside tri r
  pub same : n ≡ o

-- a triangle's word at the end
abbrev pub with_triangle : Word → Bool → TileList → TileList
with_triangle w counted o = record { counted = o.counted || counted; numbers = o.numbers ++ encoded w ∷ [] }

-- the triangle's word stands behind the state's, and names the edges that matter
pub record Draws (tri : Triangle) (r : PixelRect) (s : Current) (number : ℕ) (o n : TileList) : Type 0 where
  pub mask : EdgeMask
  pub mid : TileList
  pub class : IsClassOf (Cut (edge_bits mask)) tri r
  pub forced : PutsInForce s o mid
  pub drawn : n ≡ with_triangle (Tri number mask) s.counted mid
  pub decodes : decoded (encoded (Tri number mask)) ≡ Some (Tri number mask)

abbrev pub AddsTriangle : Triangle → PixelRect → Current → ℕ → TileList → TileList → Type 0
AddsTriangle tri r s number o n = Stays tri r o n ⊎ Draws tri r s number o n

-- the triangle's bounds meet no pixel of the tile, and nothing changes
pub record Misses (bounds r : PixelRect) (o n : TileList) : Type 0 where
  pub nowhere : (x y : ℕ) → IsIn r x y → is_in_rect bounds x y ≡ false
  pub same : n ≡ o

abbrev pub TakesTriangle : Triangle → PixelRect → PixelRect → Current → ℕ → TileList → TileList → Type 0
TakesTriangle tri bounds r s number o n = Misses bounds r o n ⊎ AddsTriangle tri r s number o n

-- the list ends with a clear of the other kind, and no triangle in it is counted
pub record CanCut (number : ℕ) (w : Word) (o : TileList) : Type 0 where
  pub front : List ℕ
  pub first : Word
  pub is : number ≡ encoded first
  pub ends : o.numbers ≡ front ++ number ∷ []
  pub decodes : decoded (encoded first) ≡ Some first
  pub both : AreBothClears (first ∷ w ∷ [])
  pub uncounted : o.counted ≡ false

-- both clears alone are left
abbrev pub both_left : ℕ → Word → TileList → TileList
both_left number w o = record { counted = o.counted; numbers = number ∷ encoded w ∷ [] }

pub record Cuts (w : Word) (o n : TileList) : Type 0 where
  pub number : ℕ
  pub can : CanCut number w o
  pub cut : n ≡ both_left number w o
  pub decodes : decoded (encoded w) ≡ Some w

abbrev pub TakesClear : Word → TileList → TileList → Type 0
TakesClear w o n = GainsWord w o n ⊎ Cuts w o n
