-- What a list that is being compiled means so far, and what each step adds.
use Rattle.std.specs.Prelude.{ℕ, ◌≡◌, ◌<◌, ◌≤◌, ◌+◌, ◌*◌, ◌⊎◌, Bool, false, List, [], ◌∷◌, ◌++◌, length, Option, Some, None, slice_get}
use Rattle.gfxspec.specs.declared.pixel.DepthStencil.{DepthStencil}
use Rattle.gfxspec.specs.declared.geometry.PixelRect.{PixelRect}
use Rattle.gfxspec.specs.State.{Settings}
use Rattle.gfxspec.specs.Tiles.{tile_count, tile_rect}
use Rattle.gfxspec.specs.Items.{Item}
use Rattle.gfxspec.specs.Commands.{Command}
use Rattle.gfxspec.specs.Recorded.{items, issues, settings_after}
use Rattle.gfxspec.specs.Predication.{performed}
use Rattle.cmdlist.specs.Drawable.{IsDrawable}
use Rattle.tileword.specs.declared.word.Word.TheVariants.{ClearC, ClearDs}
use Rattle.binner.specs.declared.entry.StateEntry.{StateEntry}
use Rattle.binner.specs.declared.entry.Current.{Current}
use Rattle.binner.specs.declared.setup.TriSetup.{TriSetup}
use Rattle.binner.specs.declared.compiling.Compiling.{Compiling}
use Rattle.binner.specs.Program.{Tables, program, force_behind}
use Rattle.binner.specs.Meaning.{Decode, Means, AreBits, DrawsUnder}
use Rattle.binner.specs.Compiled.{Compilation}
use Rattle.binner.specs.Opened.{CanNote}
use Rattle.binner.specs.Cuts.{AreUncounted}
use Rattle.binner.specs.Lists.{TileList, at, IsLists, IsShort, EachChanges, TakesTriangle, TakesClear, drawn_behind}

abbrev pub tables : {A : Type 0} → Compiling A → Tables
tables c = record { states = c.states.items; triangles = c.triangles; colors = c.colors.items; depths = c.depths.items }

-- on its rectangle a tile's list means these items, and its last triangle tells the entry in force
pub record ListMeans (t : Tables) (r : PixelRect) (items : List Item) (current : Option Current) (l : TileList) : Type 0 where
  pub decode : Decode l.numbers
  pub means : Means t r None (force_behind t None (program l.numbers)) items (program l.numbers)
  pub uncounted : l.counted ≡ false → AreUncounted t None (program l.numbers)
  pub below : (n : ℕ) → drawn_behind None (program l.numbers) ≡ Some n → (p : TriSetup) × (slice_get t.triangles n ≡ Some p)
  pub stands : (s : Current) (n : ℕ) → current ≡ Some s → drawn_behind None (program l.numbers) ≡ Some n → s.first ≤ n → (e : StateEntry) × (slice_get t.states s.entry ≡ Some e) × (force_behind t None (program l.numbers) ≡ Some e)

-- so far each tile's list means these items
abbrev pub HasCompiled : {A : Type 0} → Compiling A → List Item → Type 0
HasCompiled c items =
    (k : ℕ) → k < tile_count c.lists.size → ListMeans (tables c) (tile_rect c.lists.size k) items c.current (at c.lists k)

-- what names the current entry names one of the table
pub record IsEntry (states : List StateEntry) (now : Current) : Type 0 where
  pub entry : StateEntry
  pub place : slice_get states now.entry ≡ Some entry
  pub uncounted : now.counted ≡ false → entry.issues ≡ 0

-- no list has more words than two for each triangle that was added and one for each clear, and there are no more of them than 65,536
pub record IsSound {A : Type 0} (c : Compiling A) : Type 0 where
  pub current : (now : Current) → c.current ≡ Some now → IsEntry c.states.items now
  pub lists : IsLists c.lists
  pub short : IsShort (2 * c.drawn + (length c.colors.items + length c.depths.items)) c.lists
  pub triangles : length c.triangles ≤ 65536
  pub drawn : c.drawn ≤ 65536
  pub clears : length c.colors.items + length c.depths.items ≤ 65536

-- ---- steps

-- the current entry is one under which triangles are drawn as under these settings, with these issues open; it may be new
pub record Enters {A : Type 0} (s : Settings) (bits : ℕ) (now : Current) (old new : Compiling A) : Type 0 where
  pub is : IsEntry new.states.items now
  pub draws : DrawsUnder is.entry s bits
  pub current : new.current ≡ Some now
  pub states : ((old.current ≡ Some now) × (new.states.items ≡ old.states.items)) ⊎ ((now.first ≡ length old.triangles) × (new.states.items ≡ old.states.items ++ is.entry ∷ []))
  pub lists : new.lists ≡ old.lists
  pub triangles : new.triangles ≡ old.triangles
  pub drawn : new.drawn ≡ old.drawn
  pub colors : new.colors.items ≡ old.colors.items
  pub depths : new.depths.items ≡ old.depths.items

-- the triangle of this number is added; it may be new in the table
pub record AddsSetup {A : Type 0} (setup : TriSetup) (number : ℕ) (s : Current) (old new : Compiling A) : Type 0 where
  pub place : slice_get new.triangles number ≡ Some setup
  pub kept : (n : ℕ) (p : TriSetup) → slice_get old.triangles n ≡ Some p → slice_get new.triangles n ≡ Some p
  pub few : length new.triangles ≤ 65536
  pub room : old.drawn < 65536
  pub drawn : new.drawn ≡ old.drawn + 1
  pub lists : EachChanges (λ k. TakesTriangle setup.plane.triangle setup.bounds (tile_rect old.lists.size k) s number) old.lists new.lists
  pub sound : IsLists new.lists
  pub states : new.states.items ≡ old.states.items
  pub colors : new.colors.items ≡ old.colors.items
  pub depths : new.depths.items ≡ old.depths.items
  pub current : new.current ≡ old.current

pub record AddsColor {A : Type 0} (rgba : List ℕ) (old new : Compiling A) : Type 0 where
  pub room : length old.colors.items + length old.depths.items < 65536
  pub lists : EachChanges (λ k. TakesClear (ClearC (length old.colors.items))) old.lists new.lists
  pub sound : IsLists new.lists
  pub triangles : new.triangles ≡ old.triangles
  pub drawn : new.drawn ≡ old.drawn
  pub states : new.states.items ≡ old.states.items
  pub colors : new.colors.items ≡ old.colors.items ++ rgba ∷ []
  pub depths : new.depths.items ≡ old.depths.items
  pub current : new.current ≡ old.current

pub record AddsDepth {A : Type 0} (value : DepthStencil) (old new : Compiling A) : Type 0 where
  pub room : length old.colors.items + length old.depths.items < 65536
  pub lists : EachChanges (λ k. TakesClear (ClearDs (length old.depths.items))) old.lists new.lists
  pub sound : IsLists new.lists
  pub triangles : new.triangles ≡ old.triangles
  pub drawn : new.drawn ≡ old.drawn
  pub states : new.states.items ≡ old.states.items
  pub colors : new.colors.items ≡ old.colors.items
  pub depths : new.depths.items ≡ old.depths.items ++ value ∷ []
  pub current : new.current ≡ old.current

-- what was added with these issues open, as bits, means these items
pub record Adds {A : Type 0} (bits : ℕ) (more : List ℕ → List Item) (old new : Compiling A) : Type 0 where
  pub sound : IsSound new
  pub size : new.lists.size ≡ old.lists.size
  pub means : (items : List Item) (opened : List ℕ) → AreBits bits opened → HasCompiled old items → HasCompiled new (items ++ more opened)

-- ---- lists

-- nothing is compiled yet
pub record IsFresh {A : Type 0} (c : Compiling A) : Type 0 where
  pub sound : IsSound c
  pub compiled : HasCompiled c []

-- no row but that on the length of a list refuses this command behind others
pub record CanStand (earlier : List Command) (c : Command) : Type 0 where
  pub drawable : IsDrawable (settings_after earlier) c
  pub note : CanNote (length (issues earlier)) c

-- no row but that on the length of a list refuses any of these commands behind others
abbrev pub CanCompile : List Command → List Command → Type 0
CanCompile earlier [] = Unit {0}
CanCompile earlier (c ∷ cs) = CanStand earlier c × CanCompile (earlier ++ c ∷ []) cs

-- what a list has added under these results of queries, and how many issues it begins
pub record AddsList {A : Type 0} (results : ℕ → Bool) (commands : List Command) (begun : ℕ) (old new : Compiling A) : Type 0 where
  pub begun_are : begun ≡ length (issues commands)
  pub few : begun ≤ 64
  pub size : new.lists.size ≡ old.lists.size
  pub sound : IsSound new
  pub means : (is : List Item) → HasCompiled old is → HasCompiled new (is ++ items (performed results commands))

-- what is kept of it at the end
abbrev pub compilation_of : {A : Type 0} → ℕ → Compiling A → Compilation
compilation_of begun c = record { size = c.lists.size; issues = begun; numbers = c.lists.bins; touched = c.lists.touched.items; tables = tables c }
