use Rattle.gfxspec.specs.Tiles.{tiles_along, tile_rect}
use Rattle.binner.specs.Lists.{AddsTriangle}
use Rattle.binner.proofs.Grid.{Partly, by_rows, by_columns}
use Rattle.binner.proofs.lists.add_to_tiles.Given as goal

abbrev pub invariant-columns : goal.invariant-columns
invariant-columns g l = Partly (λ k. AddsTriangle l.fn.setup.plane.triangle (tile_rect l.fn.lists.size k) l.fn.current l.fn.number) l.fn.lists l.lists (by_columns (tiles_along l.fn.lists.size.width) l.left l.right l.top l.row l.column)

abbrev pub invariant-rows : goal.invariant-rows
invariant-rows g l = Partly (λ k. AddsTriangle l.fn.setup.plane.triangle (tile_rect l.fn.lists.size k) l.fn.current l.fn.number) l.fn.lists l.lists (by_rows (tiles_along l.fn.lists.size.width) l.left l.right l.top l.row)
