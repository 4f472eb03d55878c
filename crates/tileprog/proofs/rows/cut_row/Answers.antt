use Rattle.tileprog.proofs.Leaving.{none_left, alike_left}
use Rattle.tileprog.proofs.rows.cut_row.Goals as goal

pub returns-then-cover-eq0 : goal.returns-then-cover-eq0
returns-then-cover-eq0 c =
    let p = c.args.pixels in
    let left = c.requires.left in
    none_left c.args.brush.now.brush c.args.column.now c.args.block.now c.requires.column p.span p.row p.bits left.span left.row left.lanes c.if-cover-eq0.true

pub returns : goal.returns
returns c =
    let p = c.args.pixels in
    let left = c.requires.left in
    alike_left c.args.brush.now.brush c.args.column.now c.args.block.now c.requires.column p.span p.row p.bits left.span left.row left.lanes c.args.known.deep c.requires.deep.all
    c.draw_alike-passed.new.block c.draw_alike-passed.result c.lanes_in.result c.draw_alike-passed.ensures.block c.draw_alike-passed.ensures.bits c.lanes_in.ensures.value c.lanes_in.ensures.few
