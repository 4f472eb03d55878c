use Rattle.std.proofs.Common.{arith, below_more, ℕ, ◌+◌, ◌*◌}
use Rattle.tileblock.specs.Widening.{HoldsSpan}
use Rattle.tileblock.proofs.Widening.{span_held, span_held_by}
use Rattle.tileblock.proofs.pixels.TilePixels.cell_extremes.Goals as goal

pub loop-k-preserved : goal.loop-k-preserved
loop-k-preserved c =
    let b = c.args.self.now in
    let first = 8 * c.args.cell in
    let was = c.loop-k.all in
    let now = c.with-more.result in
    let e = c.with-more.ensures in
    record {
      rows = below_more (λ (i : ℕ). HoldsSpan b c.args.span (first + i) now) c.loop-k.k
          (λ i l. span_held_by b c.args.span (first + i) was now c.depth_span-depths.result e.least e.greatest (c.loop-k.invariant.rows i l))
          (span_held b c.args.span (first + c.loop-k.k) was now c.depth_span-depths.result e.least e.greatest c.depth_span-depths.ensures);
    }

pub returns : goal.returns
returns c = λ k h. c.loop-k.invariant.rows k (omega arith)
