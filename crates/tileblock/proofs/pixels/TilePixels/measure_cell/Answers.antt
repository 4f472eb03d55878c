use Rattle.tileblock.proofs.Widening.{cell_between}
use Rattle.tileblock.proofs.pixels.TilePixels.measure_cell.Goals as goal

pub keep_cell-requires-clause-lie : goal.keep_cell-requires-clause-lie
keep_cell-requires-clause-lie c =
    cell_between c.args.self.now c.cell_extremes-all.result c.args.span c.args.cell c.least_of_all.result c.greatest_of_all.result c.cell_extremes-all.ensures c.least_of_all.ensures c.greatest_of_all.ensures
