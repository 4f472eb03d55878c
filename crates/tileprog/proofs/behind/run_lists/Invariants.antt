use Rattle.std.proofs.Common.{◌≡◌, ℕ, drop}
use Rattle.gfxspec.specs.Tiles.{IsIn}
use Rattle.tileblock.specs.Block.{pixel_at}
use Rattle.tileprog.specs.Programs.{pixel_by_all}
use Rattle.tileprog.proofs.behind.run_lists.Given as goal

abbrev pub invariant-loop-list : goal.invariant-loop-list
invariant-loop-list g l =
    record {
      rect : l.block.rect ≡ l.fn.block.rect;
      pixels : (x y : ℕ) → IsIn l.fn.block.rect x y → pixel_by_all (drop l.list-index l.lists) l.tile x y (pixel_at l.block x y) ≡ pixel_by_all l.lists l.tile x y (pixel_at l.fn.block x y);
    }
