-- A target whose tiles are on a board (this project's own).
use Rattle.std.specs.Prelude.{ℕ, ◌≡◌, ◌<◌, List, length, None, Some}
use Rattle.std.specs.List.{Contains}
use mathlib.Core.Option.{some}
use lib.ListN.{get_elem?}
use Rattle.gfxspec.specs.declared.pixel.Pixel.{Pixel}
use Rattle.gfxspec.specs.Tiles.{tile_rect, IsIn}
use Rattle.tileblock.specs.Block.{Block, pixel_at}
use Rattle.tileblock.specs.Surface.{Surface, block_of, LacksBlock}

-- there is a place for the block of tile t, and it is empty
abbrev pub IsOut : Surface → ℕ → Type 0
IsOut s t = LacksBlock s t × (t < length s.blocks)

-- Those tiles of the target `old` were taken out, which left `mid`, and stand on the board as `placed`, each in the place
-- that it has in the list.
pub record AreOut {O : Type 0} (number : O → ℕ) (block : O → Block) (tiles : List ℕ) (old mid : Surface) (placed : List O) : Type 0 where
  pub size : mid.size ≡ old.size
  pub long : length mid.blocks ≡ length old.blocks
  pub many : length placed ≡ length tiles
  pub out : (t : ℕ) → Contains tiles t → block_of mid t ≡ None
  pub rest : (t : ℕ) → ¬ Contains tiles t → block_of mid t ≡ block_of old t
  pub held : (p : ℕ) (o : O) → get_elem? placed p ≡ some o
      → (t : ℕ) × (get_elem? tiles p ≡ some t) × (number o ≡ p) × (block_of old t ≡ Some (block o))
      × ((block o).rect ≡ tile_rect old.size t)

-- what is asked of the tiles that are to go back
pub record MayComeBack {O : Type 0} (number : O → ℕ) (block : O → Block) (tiles : List ℕ) (mid : Surface) (placed : List O) : Type 0 where
  pub many : length placed ≡ length tiles
  pub out : (t : ℕ) → Contains tiles t → IsOut mid t
  pub held : (p : ℕ) (o : O) → get_elem? placed p ≡ some o
      → (t : ℕ) × (get_elem? tiles p ≡ some t) × (number o ≡ p) × ((block o).rect ≡ tile_rect mid.size t)

-- The blocks went back to the places that the list has them at, and the other tiles are as they were.
pub record AreBack {D : Type 0} (block : D → Block) (tiles : List ℕ) (mid new : Surface) (results : List D) : Type 0 where
  pub size : new.size ≡ mid.size
  pub back : (p : ℕ) (d : D) (t : ℕ) → get_elem? results p ≡ some d → get_elem? tiles p ≡ some t
      → block_of new t ≡ Some (block d)
  pub rest : (t : ℕ) → ¬ Contains tiles t → block_of new t ≡ block_of mid t

-- The tiles that stood on the board as `placed` ran and went back, and the other tiles are as they were.
pub record HaveRun {O : Type 0} (block : O → Block) (drawn : ℕ → ℕ → ℕ → Pixel → Pixel) (tiles : List ℕ) (mid new : Surface) (placed : List O) : Type 0 where
  pub size : new.size ≡ mid.size
  pub back : (p : ℕ) (o : O) (t : ℕ) → get_elem? placed p ≡ some o → get_elem? tiles p ≡ some t
      → (b : Block) × (block_of new t ≡ Some b)
      × ((x y : ℕ) → IsIn (block o).rect x y → pixel_at b x y ≡ drawn t x y (pixel_at (block o) x y))
  pub rest : (t : ℕ) → ¬ Contains tiles t → block_of new t ≡ block_of mid t

-- what the pixels hold at first is what they hold in the tiles on the board
abbrev pub Opens : {O : Type 0} → (O → Block) → List O → (ℕ → ℕ → Pixel) → Type 0
Opens {O} block placed opening =
    (p : ℕ) (o : O) → get_elem? placed p ≡ some o → (x y : ℕ) → IsIn (block o).rect x y
    → opening x y ≡ pixel_at (block o) x y
