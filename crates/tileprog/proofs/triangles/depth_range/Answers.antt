use Rattle.tileprog.proofs.Hiding.{vertices_lie}
use Rattle.tileprog.proofs.triangles.depth_range.Goals as goal

pub range-requires-clause-covered : goal.range-requires-clause-covered
range-requires-clause-covered c = λ x y is.
    c.requires.whole c.if-whole.true x y is

pub returns-then-whole : goal.returns-then-whole
returns-then-whole c = λ u v is covered. c.range.ensures.between u v is

pub returns-then-not-asked : goal.returns-then-not-asked
returns-then-not-asked c = vertices_lie c.args.triangle.now c.args.rect
