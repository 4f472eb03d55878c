use Rattle.std.proofs.Common.{rules}
use Rattle.tileprog.proofs.Hiding.{vertices_within}
use Rattle.tileprog.proofs.draw.draw_tested.Goals as goal

pub draw_walked-requires-clause-over : goal.draw_walked-requires-clause-over
draw_walked-requires-clause-over c =
    record {
      within = c.requires.within;
      tile = c.requires.tile;
      wide = c.requires.wide;
      high = c.requires.high;
      named = c.requires.named;
      corners = vertices_within c.args.triangle.now;
      begun = search rules;
      begins = search rules;
      ends = search rules;
      ended = search rules;
      few = search rules;
    }

pub draw_walked-requires-2-clause-over : goal.draw_walked-requires-2-clause-over
draw_walked-requires-2-clause-over c =
    record {
      within = c.requires.within;
      tile = c.requires.tile;
      wide = c.requires.wide;
      high = c.requires.high;
      named = c.requires.named;
      corners = vertices_within c.args.triangle.now;
      begun = search rules;
      begins = search rules;
      ends = search rules;
      ended = search rules;
      few = search rules;
    }
