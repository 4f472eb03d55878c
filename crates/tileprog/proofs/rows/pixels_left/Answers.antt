use Rattle.std.proofs.Common.{refl, ◌+◌}
use Rattle.tileprog.proofs.Rowing.{lanes_at, row_decides}
use Rattle.tileprog.proofs.rows.pixels_left.Goals as goal

pub lanes_left-bits-requires-clause-decides : goal.lanes_left-bits-requires-clause-decides
lanes_left-bits-requires-clause-decides c =
    let k = c.args.column.now in
    let rect = c.args.block.now.rect in
    row_decides k.plane.now k.mask rect k.clip c.args.edges.now k.x (rect.top + c.args.row) c.requires.column.named c.requires.column.within c.requires.column.tile c.requires.edges.begun c.requires.edges.place c.requires.row.top c.requires.row.bottom

pub returns-clause-left : goal.returns-clause-left
returns-clause-left c =
    let k = c.args.column.now in
    let y = c.args.block.now.rect.top + c.args.row in
    record {
      span = refl;
      row = c.requires.row;
      lanes = lanes_at c.args.edges.now k.plane.now.triangle k.x y k.mask k.clip.left k.clip.right c.lanes_left-bits.result c.requires.edges.place c.lanes_left-bits.ensures;
    }
