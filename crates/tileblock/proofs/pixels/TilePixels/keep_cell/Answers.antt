use Rattle.std.proofs.Common.{◌≡◌, ◌∙◌, sym, subst, refl, length}
use Rattle.std.proofs.lemmas.Option.{same_Some}
use Rattle.tileblock.specs.declared.pixels.Cells.{Cells}
use Rattle.tileblock.specs.Block.{Block}
use Rattle.tileblock.specs.Cells.{CellLies, CellsLie, cells_of}
use Rattle.tileblock.proofs.Celling.{kept_places, kept_lie}
use Rattle.tileblock.proofs.pixels.TilePixels.keep_cell.Goals as goal

pub invariant_of-self : goal.invariant_of-self
invariant_of-self c =
    let inside = c.self.inside in
    let inv = c.self.invariant in
    let was = inside.spans.cells in
    let now = cells_of was in
    let is : now ≡ cells_of was = refl in
    let block : Block = record { rect = inside.rect; colors = inside.spans.colors; depths = inside.spans.depths; stencils = inside.spans.stencils } in
    let lie = subst (λ (b : Block). CellLies b c.args.span c.args.cell c.args.least c.args.greatest) (sym c.self.view_is) c.requires.lie in
    record {
      block = inv.block;
      between = inv.between;
      places = λ k known. subst (λ (k : Cells). length k.bounds ≡ 16) (same_Some _ k (sym c.keep.ensures ∙ known))
          (kept_places block was inv.places inv.each now is c.args.span c.args.cell c.args.least c.args.greatest c.requires.span c.requires.cell lie);
      each = λ k known. subst (λ (k : Cells). CellsLie block k) (same_Some _ k (sym c.keep.ensures ∙ known))
          (kept_lie block was inv.places inv.each now is c.args.span c.args.cell c.args.least c.args.greatest c.requires.span c.requires.cell lie);
    }
