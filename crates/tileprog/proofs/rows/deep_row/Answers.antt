use Rattle.std.proofs.Common.{refl}
use Rattle.tileprog.proofs.Leaving.{walked_left}
use Rattle.tileprog.proofs.Rowing.{all_lanes_covered}
use Rattle.tileprog.proofs.rows.deep_row.Goals as goal

pub returns : goal.returns
returns g c =
    let k = c.args.column.now in
    let old = c.args.block.now in
    let row = c.args.row in
    walked_left c.args.brush.now.brush k old c.requires.column k.span row 255 refl c.requires.row (all_lanes_covered k k.plane.now.triangle old.rect row c.requires.within c.requires.covered)
    (g.W.Walks.place c.args.walk.now) c.depths-depths.result c.requires.walk c.depths-depths.ensures
    c.draw_stencils-passed.new.block c.draw_stencils-passed.result c.lanes_in.result c.draw_stencils-passed.ensures.block c.draw_stencils-passed.ensures.bits c.lanes_in.ensures.value c.lanes_in.ensures.few
