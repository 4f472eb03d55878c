use Rattle.tileblock.proofs.Widening.{rows_between}
use Rattle.tileblock.proofs.pixels.TilePixels.measure_bounds.Goals as goal

pub keep_bounds-requires : goal.keep_bounds-requires
keep_bounds-requires c =
    rows_between c.args.self.now c.extremes-all.result c.least_of_all.result c.greatest_of_all.result c.extremes-all.ensures.tile c.extremes-all.ensures.rows c.least_of_all.ensures c.greatest_of_all.ensures
