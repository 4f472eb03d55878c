use Rattle.std.proofs.Common.{refl, sym, subst}
use Rattle.tileword.specs.EdgeMask.{edge_bits}
use Rattle.classify.specs.Region.{IsClassOf}
use Rattle.classify.specs.declared.Class.TheVariants.{Cut}
use Rattle.tileblock.specs.Block.{Block}
use Rattle.tileprog.proofs.triangles.draw_small_under.Goals as goal

pub draw_under-requires-clause-class : goal.draw_under-requires-clause-class
draw_under-requires-clause-class c =
    let C : Block → Type 0 = λ b. IsClassOf (Cut (edge_bits c.args.mask.now)) c.args.triangle.now.plane.triangle b.rect in
    subst C (sym (c.in-None.ensures.none refl)) c.requires.class
