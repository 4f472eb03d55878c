-- A triangle's word on the pixels of a tile, of whose colours bits may still have to be flipped.
use Rattle.std.specs.Prelude.{ℕ, ◌≡◌, ◌≤◌, Some}
use Rattle.gfxspec.specs.Tiles.{IsIn}
use Rattle.tileword.specs.declared.edge_mask.EdgeMask.{EdgeMask}
use Rattle.meaning.specs.Over.{sum_over}
use Rattle.tileblock.specs.Block.{Block}
use Rattle.binner.specs.declared.entry.StateEntry.{StateEntry}
use Rattle.binner.specs.declared.setup.TriSetup.{TriSetup}
use Rattle.binner.specs.Program.{triangle_by}
use Rattle.tileprog.specs.Painting.{stands_for}
use Rattle.tileprog.specs.Passing.{triangle_count}

-- the triangle has been drawn under the entry, and n of its pixels passed
pub record DrewUnder (m : EdgeMask) (t : TriSetup) (e : StateEntry) (flip : ℕ) (old new : Block) (n : ℕ) : Type 0 where
  pub rect : new.rect ≡ old.rect
  pub pixels : (u v : ℕ) → IsIn old.rect u v → stands_for flip new u v ≡ triangle_by m (Some t) (Some e) u v (stands_for flip old u v)
  pub count : n ≡ sum_over old.rect (triangle_count m t e old)
  pub few : n ≤ 1024
