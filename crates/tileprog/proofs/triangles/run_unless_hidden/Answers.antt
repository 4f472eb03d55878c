use Rattle.std.proofs.Common.{sym, subst}
use Rattle.tileword.specs.EdgeMask.{edge_bits}
use Rattle.classify.specs.Region.{IsClassOf}
use Rattle.classify.specs.declared.Class.TheVariants.{Cut}
use Rattle.tileblock.specs.Block.{Block}
use Rattle.tileprog.proofs.Hiding.{hidden_pixel, hidden_count, vertices_lie}
use Rattle.tileprog.proofs.triangles.run_unless_hidden.Goals as goal

-- the pixels that are drawn on are those of the block
pub run_triangle-requires-clause-class : goal.run_triangle-requires-clause-class
run_triangle-requires-clause-class g c =
    subst (λ (b : Block). IsClassOf (Cut (edge_bits c.args.mask)) c.args.triangle.now.plane.triangle b.rect) (sym c.pixels_mut.ensures.value) c.requires.class

pub returns-then-hidden-clause-pixels : goal.returns-then-hidden-clause-pixels
returns-then-hidden-clause-pixels g c = λ u v is.
    let t = c.args.triangle.now in
    let b = c.args.block.now in
    hidden_pixel t c.args.entry.now c.args.mask b c.requires.class t.least_depth t.greatest_depth (vertices_lie t b.rect) c.depth_bounds-stored.result c.depth_bounds-stored.ensures (c.is_hidden-hidden.ensures c.if-hidden.true) c.args.flip.now u v is

pub returns-then-hidden-clause-count : goal.returns-then-hidden-clause-count
returns-then-hidden-clause-count g c =
    let t = c.args.triangle.now in
    let b = c.args.block.now in
    hidden_count t c.args.entry.now c.args.mask b c.requires.class t.least_depth t.greatest_depth (vertices_lie t b.rect) c.depth_bounds-stored.result c.depth_bounds-stored.ensures (c.is_hidden-hidden.ensures c.if-hidden.true)
