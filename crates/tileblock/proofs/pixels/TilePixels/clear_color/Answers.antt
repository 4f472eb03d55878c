use Rattle.std.proofs.Common.{refl}
use Rattle.tileblock.proofs.Spans.{AreSpans-filled}
use Rattle.tileblock.proofs.pixels.TilePixels.clear_color.Goals as goal

pub invariant_of-self : goal.invariant_of-self
invariant_of-self c =
    rw (c.clear_color.ensures)
    (record {
      block = record {
        rect = c.self.invariant.block.rect;
        colors = AreSpans-filled 128 8 c.from_le_bytes.result refl refl;
        depths = c.self.invariant.block.depths;
        stencils = c.self.invariant.block.stencils;
      };
      between = c.self.invariant.between;
      places = c.self.invariant.places;
      each = c.self.invariant.each;
    })
