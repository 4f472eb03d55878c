use Rattle.std.proofs.Common.{◌∙◌, sym, ◌+◌}
use Rattle.gfxspec.specs.Raster.{centre}
use Rattle.tileprog.proofs.Rowing.{decided, lane_left, near_begin, none_named}
use Rattle.tileprog.proofs.rows.lanes_left.Goals as goal

pub returns-then-mask-eq0 : goal.returns-then-mask-eq0
returns-then-mask-eq0 c = λ j h.
    let k = c.args.column.now in
    let e = c.args.edges.now in
    k.lanes j h ∙ none_named k.mask e.triangle (centre (k.x + j) e.y) _ (sym c.requires.same ∙ c.if-mask-eq0.true)

pub returns : goal.returns
returns c = λ j h.
    let k = c.args.column.now in
    let e = c.args.edges.now in
    let d = c.requires.decides in
    lane_left k.within c.covered.result j _ _ (k.lanes j h)
    (λ w. c.covered.ensures j h (near_begin k.mask e k.clip.left k.clip.right d k.x j c.requires.place w) ∙ decided k.mask e k.clip.left k.clip.right d k.x j c.requires.place w)
