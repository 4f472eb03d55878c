-- Compiled lists that run one behind the other on a target (this project's own).
use Rattle.std.specs.Prelude.{ℕ, ◌≡◌, ◌<◌, Bool, false, List, [], Option, Some, None, All, length, slice_index_or, if◌then◌else◌}
use Rattle.std.specs.List.{Contains}
use Rattle.gfxspec.specs.declared.geometry.PixelRect.{PixelRect}
use Rattle.gfxspec.specs.declared.geometry.Size.{Size}
use Rattle.gfxspec.specs.Tiles.{tile_count, tile_rect}
use Rattle.binmem.specs.Lists.{words_of}
use Rattle.binner.specs.Lists.{times}
use Rattle.binner.specs.Compiled.{Compilation}
use Rattle.tilerun.specs.Touched.{AreTiles}
use Rattle.tileprog.specs.declared.behind.Behind.{Behind}

-- the lists behind a first one
abbrev pub behind_it : {A : Type 0} → Option (Behind A) → List Compilation
behind_it None = []
behind_it (Some b) = b.lists.items

-- the tiles that it or one behind it touches
abbrev pub tiles_with : {A : Type 0} → Compilation → Option (Behind A) → List ℕ
tiles_with first None = first.touched
tiles_with first (Some b) = b.touched.items

-- a list that can run behind another: it is for a target of this size, and has no issue
abbrev pub CanRunBehind : Size → Compilation → Type 0
CanRunBehind size c = (c.size ≡ size) × (c.issues ≡ 0)

-- a target of the list's size has this tile, at that rectangle
abbrev pub HasTile : ℕ → PixelRect → Compilation → Type 0
HasTile t r c = (t < tile_count c.size) × (r ≡ tile_rect c.size t)

-- the list has words in none but these tiles
abbrev pub HasWordsIn : List ℕ → Compilation → Type 0
HasWordsIn tiles c = (t : ℕ) → ¬ Contains tiles t → words_of c.numbers t ≡ []

-- Lists for targets of one size, and tiles of such a target, each once, among them all in which one of the lists has words.
pub record AreLists (size : Size) (lists : List Compilation) (among : List ℕ) : Type 0 where
  pub sizes : All (λ c. c.size ≡ size) lists
  pub tiles : AreTiles size among
  pub words : All (HasWordsIn among) lists

-- Tiles of a target, each once, with a flag for each tile of the target that says whether it is among them.
pub record AreMarked (size : Size) (seen : List Bool) (tiles : List ℕ) : Type 0 where
  pub long : length seen ≡ tile_count size
  pub flags : (t : ℕ) → times t tiles ≡ (if slice_index_or seen t false then 1 else 0)
