use Rattle.std.proofs.Common.{◌∙◌, ap, rules}
use Rattle.tileblock.specs.Surface.{pixel_of}
use Rattle.device_calls.specs.Rows.{cell_of, color_cell, no_cell}
use Rattle.device_calls.proofs.GoingOn.{row_goes_on}
use Rattle.device_calls.proofs.rows.store_colors.Goals as goal

pub loop-k-preserved : goal.loop-k-preserved
loop-k-preserved c =
    let more = c.store_together-k.ensures in
    record {
      len = search rules;
      stored = row_goes_on no_cell (λ n. color_cell c.args.bgra (pixel_of c.args.target.now n c.args.y)) c.args.left c.loop-k.k c.store_together-k.result _ c.loop-k.row c.store_together-k.new.row _ (search rules) more.inside (more.before no_cell) (more.here no_cell) (λ j h. c.cells_of-cells.ensures j h ∙ ap (cell_of c.args.bgra) (c.colors.ensures j h)) c.loop-k.invariant.stored;
    }
