use Rattle.std.proofs.Common.{refl}
use Rattle.std.proofs.lemmas.Option.{none-some}
use Rattle.tileblock.proofs.Spans.{AreSpans-filled}
use Rattle.tileblock.proofs.Between.{filled_between}
use Rattle.tileblock.proofs.pixels.TilePixels.new.Goals as goal

pub invariant_of-result : goal.invariant_of-result
invariant_of-result c = record {
  block = record {
    rect = c.requires;
    colors = AreSpans-filled 128 8 _ refl refl;
    depths = AreSpans-filled 128 8 _ refl refl;
    stencils = AreSpans-filled 128 8 _ refl refl;
  };
  between = filled_between c.args.rect _ 16777215 refl;
  places = λ k is. absurd (none-some k is);
  each = λ k is. absurd (none-some k is);
}
