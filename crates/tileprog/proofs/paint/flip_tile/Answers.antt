use Rattle.std.proofs.Common.{◌≡◌, ◌∙◌, ap, sym, subst, rules}
use Rattle.gfxspec.specs.Tiles.{IsIn}
use Rattle.tileblock.specs.Block.{Block}
use Rattle.tileprog.specs.Painting.{stands_for}
use Rattle.tileprog.proofs.Painted.{stands_itself, flip_written}
use Rattle.tileprog.proofs.paint.flip_tile.Goals as goal

pub returns-then-flip-ne0-clause-pixels : goal.returns-then-flip-ne0-clause-pixels
returns-then-flip-ne0-clause-pixels g c = λ u v is.
    let same : c.pixels_mut.result.now ≡ c.args.block.now = search rules in
    c.write_tile.ensures.pixels u v (subst (λ (b : Block). IsIn b.rect u v) (sym same) is)
    ∙ flip_written c.args.flip c.pixels_mut.result.now u v ∙ ap (λ (b : Block). stands_for c.args.flip b u v) same

pub returns-else-flip-ne0-clause-pixels : goal.returns-else-flip-ne0-clause-pixels
returns-else-flip-ne0-clause-pixels g c = λ u v is.
    sym (ap (λ f. stands_for f c.args.block.now u v) c.if-flip-ne0.false ∙ stands_itself c.args.block.now u v)
