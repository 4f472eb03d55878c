use Rattle.std.proofs.Common.{arith, below_more, ℕ}
use Rattle.tileblock.specs.Widening.{HoldsRow}
use Rattle.tileblock.proofs.Widening.{held_by_wider}
use Rattle.tileblock.proofs.pixels.TilePixels.extremes.Goals as goal

pub loop-row-preserved : goal.loop-row-preserved
loop-row-preserved c =
    let more = c.with_row-more in
    record {
      rows = below_more (λ (r : ℕ). HoldsRow c.args.self.now r more.result) c.loop-row.row (λ r l. held_by_wider c.args.self.now r c.loop-row.all more.result more.ensures.before (c.loop-row.invariant.rows r l)) more.ensures.row;
    }

pub returns-clause-rows : goal.returns-clause-rows
returns-clause-rows c = λ r h. c.loop-row.invariant.rows r (omega arith)
