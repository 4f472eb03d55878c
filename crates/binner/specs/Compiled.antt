-- What a compiled list is, and when it means a list of commands.
use Rattle.std.specs.Prelude.{ℕ, ◌≡◌, ◌<◌, ◌≤◌, IsTrue, List, length, if◌then◌else◌}
use Rattle.gfxspec.specs.declared.geometry.Size.{Size}
use Rattle.gfxspec.specs.Limits.{is_size}
use Rattle.gfxspec.specs.Tiles.{tile_count, tile_rect}
use Rattle.gfxspec.specs.Commands.{Command}
use Rattle.gfxspec.specs.Recorded.{items}
use Rattle.gfxspec.specs.declared.pixel.Pixel.{Pixel}
use Rattle.gfxspec.specs.Items.{issue_count, sum_below}
use Rattle.binmem.specs.Lists.{words_of}
use Rattle.binner.specs.Program.{Tables, program_count}
use Rattle.binner.specs.Meaning.{ProgramFits, ProgramMeans}
use Rattle.binner.specs.Lists.{times, has_some}

-- a size, how many issues the list begins, the words of each of its tiles as numbers, the tiles that have words, and what the numbers in words name
pub record Compilation : Type 0 where
  pub size : Size
  pub issues : ℕ
  pub numbers : List (List ℕ)
  pub touched : List ℕ
  pub tables : Tables

-- What the type of a compiled list keeps: each number of a tile is a word, and names an entry; a state stands before each triangle, and a triangle stands only where each of its edges holds somewhere in the tile's rectangle, with exactly the edges named that fail somewhere. No tile has more words than two for each triangle and one for each clear.
pub record IsCompilation (c : Compilation) : Type 0 where
  pub size : IsTrue (is_size c.size)
  pub issues : c.issues ≤ 64
  pub tiles : length c.numbers ≡ tile_count c.size
  pub short : (k : ℕ) → length (words_of c.numbers k) ≤ 196608
  pub programs : (k : ℕ) → k < tile_count c.size → ProgramFits c.tables (tile_rect c.size k) (words_of c.numbers k)
  pub touched : (k : ℕ) → times k c.touched ≡ (if has_some (words_of c.numbers k) then 1 else 0)

-- each tile's program means the items of the list on the tile's rectangle
abbrev pub MeansList : List Command → Compilation → Type 0
MeansList commands c =
    (k : ℕ) → k < tile_count c.size → ProgramMeans c.tables (tile_rect c.size k) (items commands) (words_of c.numbers k)

-- the count of an issue over the target is the sum of what the programs of the tiles count
abbrev pub CountsAreSums : List Command → Compilation → Type 0
CountsAreSums commands c =
    (issue : ℕ) (opening : ℕ → ℕ → Pixel) → issue < 64 → issue_count issue (items commands) c.size.width c.size.height opening ≡ sum_below (tile_count c.size) (λ k. program_count c.tables issue (words_of c.numbers k) (tile_rect c.size k) opening)
