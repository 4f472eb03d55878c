-- Several lists that are compiled as one, each read from the default state (Microsoft Learn, ID3D11DeviceContext::ExecuteCommandList).
use Rattle.std.specs.Prelude.{ℕ, ◌<◌, List}
use Rattle.gfxspec.specs.Items.{Item}
use Rattle.gfxspec.specs.Tiles.{tile_count, tile_rect}
use Rattle.binmem.specs.Lists.{words_of}
use Rattle.binner.specs.declared.compiling.Compiling.{Compiling}
use Rattle.binner.specs.Meaning.{ProgramMeans}
use Rattle.binner.specs.Compiled.{Compilation}
use Rattle.binner.specs.Compiling.{HasCompiled, IsSound}

-- each tile's program means these items on the tile's rectangle
abbrev pub MeansItems : List Item → Compilation → Type 0
MeansItems is c =
    (k : ℕ) → k < tile_count c.size → ProgramMeans c.tables (tile_rect c.size k) is (words_of c.numbers k)

-- lists that were compiled one behind the other mean some items
pub record IsBatch {A : Type 0} (c : Compiling A) : Type 0 where
  pub sound : IsSound c
  pub items : List Item
  pub compiled : HasCompiled c items
