use Rattle.std.proofs.Common.{◌≡◌}
use Rattle.gfxspec.specs.Tiles.{tile_count}
use Rattle.tileblock.specs.Surface.{IsWhole}
use Rattle.conformance_parts.proofs.blocks.move_all.Given as goal

abbrev pub invariant-loop : goal.invariant-loop
invariant-loop g l = IsWhole l.target × (tile_count l.target.size ≡ l.tiles)

abbrev pub invariant-loop-tile : goal.invariant-loop-tile
invariant-loop-tile g l = IsWhole l.target × (tile_count l.target.size ≡ l.tiles)
