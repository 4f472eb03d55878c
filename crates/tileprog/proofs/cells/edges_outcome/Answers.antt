use Rattle.std.proofs.Common.{◌∙◌, ap, subst}
use Rattle.std.specs.Int.{bit_at}
use Rattle.std.proofs.lemmas.Nat.Bits.{bit_at-zero}
use Rattle.gfxspec.specs.Raster.{centre}
use Rattle.classify.specs.Region.{IsClassOf}
use Rattle.classify.specs.declared.Class.{Class}
use Rattle.classify.specs.declared.Class.TheVariants.{Cut, Outside}
use Rattle.tileprog.proofs.CellLaws.{none_cover}
use Rattle.tileprog.proofs.cells.edges_outcome.Goals as goal

pub returns-then-cut-eq0 : goal.returns-then-cut-eq0
returns-then-cut-eq0 c = λ i l x y is.
    let P : Class → Type 0 = λ k. IsClassOf k c.args.set.now c.args.rect in
    let has : P (Cut c.in-Cut.cut) = subst P c.in-Cut.is c.classify.ensures in
    (has.1 i l).clear (ap (λ n. bit_at n i) c.if-cut-eq0.true ∙ bit_at-zero i) x y is

pub returns-in-Outside : goal.returns-in-Outside
returns-in-Outside c = λ u v is.
    let P : Class → Type 0 = λ k. IsClassOf k c.args.set.now c.args.rect in
    let has : P Outside = subst P c.in-Outside.is c.classify.ensures in
    none_cover c.args.set.now (centre u v) has.0 has.1 (has.2 u v is)
