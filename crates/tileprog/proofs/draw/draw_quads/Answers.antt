use Rattle.std.proofs.Common.{rules}
use Rattle.tileprog.proofs.draw.draw_quads.Goals as goal

pub draw_small-requires-clause-over : goal.draw_small-requires-clause-over
draw_small-requires-clause-over c =
    record {
      within = c.requires.within;
      tile = c.requires.tile;
      wide = c.requires.wide;
      high = c.requires.high;
      named = c.requires.named;
      begun = search rules;
      begins = search rules;
      ends = search rules;
      ended = search rules;
      few = search rules;
    }
