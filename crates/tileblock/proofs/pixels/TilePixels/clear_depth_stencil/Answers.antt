use Rattle.std.proofs.Common.{refl}
use Rattle.std.proofs.lemmas.Option.{none-some}
use Rattle.tileblock.proofs.Spans.{AreSpans-filled}
use Rattle.tileblock.proofs.Between.{filled_between}
use Rattle.tileblock.proofs.pixels.TilePixels.clear_depth_stencil.Goals as goal

pub invariant_of-self : goal.invariant_of-self
invariant_of-self c =
    rw (c.clear_depth_stencil.ensures)
    (record {
      block = record {
        rect = c.self.invariant.block.rect;
        colors = c.self.invariant.block.colors;
        depths = AreSpans-filled 128 8 c.args.value.depth refl refl;
        stencils = AreSpans-filled 128 8 c.args.value.stencil refl refl;
      };
      between = filled_between c.self.inside.rect _ c.args.value.depth refl;
      places = λ k is. absurd (none-some k is);
      each = λ k is. absurd (none-some k is);
    })
