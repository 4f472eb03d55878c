use Rattle.tileprog.proofs.Leaving.{none_left, open_left}
use Rattle.tileprog.proofs.rows.open_row.Goals as goal

pub returns-then-cover-eq0 : goal.returns-then-cover-eq0
returns-then-cover-eq0 c =
    let p = c.args.pixels in
    let left = c.requires.left in
    none_left c.args.brush.now c.args.column.now c.args.block.now c.requires.column p.span p.row p.bits left.span left.row left.lanes c.if-cover-eq0.true

pub returns : goal.returns
returns c =
    let p = c.args.pixels in
    let left = c.requires.left in
    open_left c.args.brush.now c.args.column.now c.args.block.now c.requires.column p.span p.row p.bits left.span left.row left.lanes
    c.draw_open.new.block p.bits c.lanes_in.result c.draw_open.ensures.block c.draw_open.ensures.bits c.lanes_in.ensures.value c.lanes_in.ensures.few
