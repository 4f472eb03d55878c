-- A compiled list's programs on a target (this project's own).
use Rattle.std.specs.Prelude.{ℕ, ◌≡◌, ◌<◌, ◌≤◌, ◌^◌, List, [], ◌∷◌, length, slice_index}
use Rattle.std.specs.List.{Contains}
use Rattle.gfxspec.specs.declared.pixel.Pixel.{Pixel}
use Rattle.gfxspec.specs.Commands.{Command}
use Rattle.gfxspec.specs.Recorded.{items}
use Rattle.gfxspec.specs.Items.{after_items, issue_count, sum_below}
use Rattle.gfxspec.specs.Tiles.{tile_count, tile_of, tile_rect, IsIn}
use Rattle.tileblock.specs.Block.{Block, pixel_at}
use Rattle.tileblock.specs.Surface.{Surface, IsWhole, pixel_of}
use Rattle.binmem.specs.Lists.{words_of}
use Rattle.binner.specs.Program.{program_pixel, program_count}
use Rattle.binner.specs.Compiled.{Compilation}
use Rattle.tilerun.specs.Touched.{AreTiles}
use Rattle.tileprog.specs.declared.program.TileProgram.{TileProgram}
use Rattle.tileprog.specs.Several.{behind_it, tiles_with}

-- what the program of a tile leaves of a pixel
abbrev pub pixel_by : Compilation → ℕ → ℕ → ℕ → Pixel → Pixel
pixel_by c t x y old = program_pixel c.tables (words_of c.numbers t) x y old

-- what it counts for an issue, from what the pixels hold at first
abbrev pub count_by : Compilation → ℕ → ℕ → (ℕ → ℕ → Pixel) → ℕ
count_by c t issue opening = program_count c.tables issue (words_of c.numbers t) (tile_rect c.size t) opening

-- what the programs of a tile in several lists leave of a pixel, one list behind the other
abbrev pub pixel_by_all : List Compilation → ℕ → ℕ → ℕ → Pixel → Pixel
pixel_by_all [] = λ t x y old. old
pixel_by_all (c ∷ cs) = λ t x y old. pixel_by_all cs t x y (pixel_by c t x y old)

-- the lists of a job, in the order in which they run
abbrev pub lists_of : {A : Type 0} → TileProgram A → List Compilation
lists_of p = p.first ∷ behind_it p.behind

-- the tiles that they touch, each once
abbrev pub tiles_of : {A : Type 0} → TileProgram A → List ℕ
tiles_of p = tiles_with p.first p.behind

-- the programs of a tile ran on a block that had the tile's rectangle: that of list c and of those behind it, which count nothing
pub record TileRan (c : Compilation) (behind : List Compilation) (t : ℕ) (old new : Block) (totals : List ℕ) : Type 0 where
  pub rect : new.rect ≡ old.rect
  pub pixels : (x y : ℕ) → IsIn old.rect x y → pixel_at new x y ≡ pixel_by_all (c ∷ behind) t x y (pixel_at old x y)
  pub counts : (issue : ℕ) (opening : ℕ → ℕ → Pixel) → issue < c.issues → ((x y : ℕ) → IsIn old.rect x y → opening x y ≡ pixel_at old x y) → slice_index totals issue ≡ count_by c t issue opening
  pub few : (issue : ℕ) → issue < c.issues → slice_index totals issue ≤ 2 ^ 40

-- tiles of the target, each once, and among them all that have words
pub record IsOrder (c : Compilation) (order : List ℕ) : Type 0 where
  pub tiles : AreTiles c.size order
  pub all : (t : ℕ) → Contains c.touched t → Contains order t

-- All programs ran: each pixel is what the program of its tile leaves of it, and each issue's count is what the programs of all tiles count.
pub record ProgramsRan (c : Compilation) (old new : Surface) (totals : List ℕ) : Type 0 where
  pub size : new.size ≡ old.size
  pub whole : IsWhole new
  pub pixels : (x y : ℕ) → x < old.size.width → y < old.size.height → pixel_of new x y ≡ pixel_by c (tile_of old.size x y) x y (pixel_of old x y)
  pub many : length totals ≡ c.issues
  pub counts : (k : ℕ) → k < c.issues → slice_index totals k ≡ sum_below (tile_count c.size) (λ t. count_by c t k (pixel_of old))

-- All programs of several lists ran, one list behind the other: each pixel is what the programs of its tile leave of it.
pub record AllRan (cs : List Compilation) (old new : Surface) : Type 0 where
  pub size : new.size ≡ old.size
  pub whole : IsWhole new
  pub pixels : (x y : ℕ) → x < old.size.width → y < old.size.height → pixel_of new x y ≡ pixel_by_all cs (tile_of old.size x y) x y (pixel_of old x y)

-- A list ran: each pixel is what the list's items leave of it, and each issue's count is how often they pass while it is open.
pub record ListRan (list : List Command) (issues : ℕ) (old new : Surface) (totals : List ℕ) : Type 0 where
  pub pixels : (x y : ℕ) → x < old.size.width → y < old.size.height → pixel_of new x y ≡ after_items (items list) x y (pixel_of old x y)
  pub counts : (k : ℕ) → k < issues → slice_index totals k ≡ issue_count k (items list) old.size.width old.size.height (pixel_of old)
