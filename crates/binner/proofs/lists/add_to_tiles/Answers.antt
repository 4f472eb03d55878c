use Rattle.std.proofs.Common.{rules, ◌≡◌, ◌+◌, ◌*◌, ◌/◌, subst, refl, min, arith}
use Rattle.gfxspec.specs.Tiles.{tiles_along, tile_rect}
use Rattle.binner.specs.Lists.{AddsTriangle, ChangesAt, EachChanges, TakesTriangle}
use Rattle.binner.proofs.Grid.{short_partly, column_done, row_ends, rows_end, column_within}
use Rattle.binner.proofs.Changing.{added_longer}
use Rattle.binner.proofs.lists.add_to_tiles.Goals as goal
use Rattle.std.proofs.lemmas.Grind.{common_steps}

pub add_triangle-requires-clause-room : goal.add_triangle-requires-clause-room
add_triangle-requires-clause-room g c =
    short_partly (λ k. AddsTriangle c.args.setup.now.plane.triangle (tile_rect c.args.lists.now.size k) c.args.current c.args.number) c.args.lists.now c.columns.lists _ 239997 2 (λ k o w h. added_longer c.args.setup.now.plane.triangle (tile_rect c.args.lists.now.size k) c.args.current c.args.number o w h) c.columns.invariant c.requires.room

pub columns-preserved : goal.columns-preserved
columns-preserved g c =
    let old = c.args.lists.now in
    let mid = c.columns.lists in
    let new = c.add_triangle.new.lists in
    let tri = c.args.setup.now.plane.triangle in
    let s = c.args.current in
    let n = c.args.number in
    let w = tiles_along old.size.width in
    let y = c.rows.row in
    let x = c.columns.column in
    let same = subst (λ e. ChangesAt (y * c.tiles_along-along.result + x) (AddsTriangle e (tile_rect mid.size (y * c.tiles_along-along.result + x)) s n) mid new) c.args.setup.now.same c.in_ok-add_triangle.ensures.added in
    let moved = subst (λ a. ChangesAt (y * a + x) (AddsTriangle tri (tile_rect mid.size (y * a + x)) s n) mid new) c.tiles_along-along.ensures.value same in
    let here = subst (λ z. ChangesAt (y * w + x) (AddsTriangle tri (tile_rect z (y * w + x)) s n) mid new) c.columns.invariant.size moved in
    let right : c.tiles_along-right.result ≡ tiles_along (min c.rect-bounds.result.right old.size.width) = search rules in
    column_done (λ k. AddsTriangle tri (tile_rect old.size k) s n) old w (c.rect-bounds.result.left / 32) c.tiles_along-right.result (c.rect-bounds.result.top / 32) mid new y x (search rules)
    (column_within x c.tiles_along-right.result c.rect-bounds.result.right old.size.width (search rules) right)
    c.columns.invariant here c.in_ok-add_triangle.ensures.sound c.in_ok-add_triangle.ensures.bins

pub rows-preserved : goal.rows-preserved
rows-preserved g c =
    let old = c.args.lists.now in
    row_ends (λ k. AddsTriangle c.args.setup.now.plane.triangle (tile_rect old.size k) c.args.current c.args.number) old (tiles_along old.size.width) (c.rect-bounds.result.left / 32) c.tiles_along-right.result (c.rect-bounds.result.top / 32) c.columns.lists c.rows.row c.columns.column (search rules) (search rules) c.columns.invariant

pub returns-clause-added : goal.returns-clause-added
returns-clause-added g c =
    let all =
    rows_end c.args.lists.now c.rows.lists c.args.setup.now.plane.triangle c.rect-bounds.result c.args.current c.args.number (c.rect-bounds.result.left / 32) c.tiles_along-right.result (c.rect-bounds.result.top / 32) c.rows.row refl (search rules) refl (search rules) c.rows.invariant in
    subst (λ b. EachChanges (λ k. TakesTriangle c.args.setup.now.plane.triangle b (tile_rect c.args.lists.now.size k) c.args.current c.args.number) c.args.lists.now c.rows.lists) c.rect-bounds.ensures all

pub add_triangle-requires-clause-tile : goal.add_triangle-requires-clause-tile
add_triangle-requires-clause-tile g c = grind (arith, common_steps)
