use Rattle.tileblock.proofs.Widening.{row_held, row_wider}
use Rattle.tileblock.proofs.pixels.TilePixels.with_row.Goals as goal

pub returns-clause-row : goal.returns-clause-row
returns-clause-row c =
    row_held c.args.self.now c.args.row c.args.before c.with-first.result c.with-second.result c.with-third.result c.with-last.result c.depth_span-a.result c.depth_span-b.result c.depth_span-c.result c.depth_span-d.result
    c.depth_span-a.ensures c.depth_span-b.ensures c.depth_span-c.ensures c.depth_span-d.ensures
    c.with-first.ensures.least c.with-second.ensures.least c.with-third.ensures.least c.with-last.ensures.least
    c.with-first.ensures.greatest c.with-second.ensures.greatest c.with-third.ensures.greatest c.with-last.ensures.greatest

pub returns-clause-before : goal.returns-clause-before
returns-clause-before c =
    row_wider c.args.self.now c.args.row c.args.before c.with-first.result c.with-second.result c.with-third.result c.with-last.result c.depth_span-a.result c.depth_span-b.result c.depth_span-c.result c.depth_span-d.result
    c.depth_span-a.ensures c.depth_span-b.ensures c.depth_span-c.ensures c.depth_span-d.ensures
    c.with-first.ensures.least c.with-second.ensures.least c.with-third.ensures.least c.with-last.ensures.least
    c.with-first.ensures.greatest c.with-second.ensures.greatest c.with-third.ensures.greatest c.with-last.ensures.greatest
