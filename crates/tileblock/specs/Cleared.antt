-- Blocks of which all pixels hold the same, and clears of them (this project's own).
use Rattle.std.specs.Prelude.{ℕ, ◌≤◌, Bool, true, false, List, [], ◌∷◌, Option, Some, None, length, replicate}
use Rattle.std.specs.Int.{w32, from_le_bytes}
use Rattle.gfxspec.specs.declared.geometry.PixelRect.{PixelRect}
use Rattle.gfxspec.specs.declared.pixel.DepthStencil.{DepthStencil}
use Rattle.gfxspec.specs.Tiles.{IsInTile}
use Rattle.tileblock.specs.Block.{Block}

-- the spans of a tile whose pixels all hold a number
abbrev pub alike : ℕ → List (List ℕ)
alike n = replicate 128 (replicate 8 n)

-- a block after a clear of its colours
abbrev pub color_cleared : List ℕ → Block → Block
color_cleared rgba b = record b { colors = alike (from_le_bytes w32 rgba) }

-- a block after a clear of its depths and stencil values
abbrev pub depth_stencil_cleared : DepthStencil → Block → Block
depth_stencil_cleared v b = record b { depths = alike v.depth; stencils = alike v.stencil }

-- the pixels that are stored, or those of a new target where none are
abbrev pub stored_in : PixelRect → List Block → Block
stored_in rect [] = record { rect = rect; colors = alike 0; depths = alike 16777215; stencils = alike 0 }
stored_in rect (b ∷ more) = b

-- a block behind a clear that is noted
abbrev pub behind_color : Option (List ℕ) → Block → Block
behind_color None b = b
behind_color (Some rgba) b = color_cleared rgba b

abbrev pub behind_depth_stencil : Option DepthStencil → Block → Block
behind_depth_stencil None b = b
behind_depth_stencil (Some v) b = depth_stencil_cleared v b

-- the colour that all pixels have, as one number, where it shows without a look at stored ones
abbrev pub plain_color : Option (List ℕ) → Bool → Option ℕ
plain_color (Some rgba) empty = Some (from_le_bytes w32 rgba)
plain_color None true = Some 0
plain_color None false = None

-- what a block holds where clears are noted and not done
abbrev pub behind_clears : PixelRect → List Block → Option (List ℕ) → Option DepthStencil → Block
behind_clears rect stored color depth_stencil = behind_depth_stencil depth_stencil (behind_color color (stored_in rect stored))

-- what the type of a block keeps: the pixels of one tile are stored or none, and there is room for them
pub record HasRoom (rect : PixelRect) (stored : List Block) (room : ℕ) : Type 0 where
  pub tile : IsInTile rect
  pub few : length stored ≤ 1
  pub some : 1 ≤ room
