use Rattle.std.proofs.Common.{refl}
use Rattle.tileprog.proofs.Leaving.{alike_left}
use Rattle.tileprog.proofs.Rowing.{all_lanes_covered}
use Rattle.tileprog.proofs.rows.alike_row.Goals as goal

pub returns-then-still : goal.returns-then-still
returns-then-still c =
    let k = c.args.column.now in
    let old = c.args.block.now in
    let row = c.args.row in
    alike_left c.args.brush.now.brush k old c.requires.column k.span row 255 refl c.requires.row (all_lanes_covered k k.plane.now.triangle old.rect row c.requires.within c.requires.covered) c.args.known.deep c.requires.deep.all
    old c.keep_alike-kept.result c.lanes_in.result c.keep_alike-kept.ensures.block c.keep_alike-kept.ensures.bits c.lanes_in.ensures.value c.lanes_in.ensures.few

pub returns : goal.returns
returns c =
    let k = c.args.column.now in
    let old = c.args.block.now in
    let row = c.args.row in
    alike_left c.args.brush.now.brush k old c.requires.column k.span row 255 refl c.requires.row (all_lanes_covered k k.plane.now.triangle old.rect row c.requires.within c.requires.covered) c.args.known.deep c.requires.deep.all
    c.draw_alike-bits.new.block c.draw_alike-bits.result c.lanes_in-2.result c.draw_alike-bits.ensures.block c.draw_alike-bits.ensures.bits c.lanes_in-2.ensures.value c.lanes_in-2.ensures.few
