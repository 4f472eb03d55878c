use Rattle.std.proofs.Common.{◌≡◌, arith, rules, ◌≤◌, below_more, slice_index, max}
use Rattle.tileblock.proofs.extremes.Extremes.greatest_of_all.Goals as goal

pub loop-j-preserved : goal.loop-j-preserved
loop-j-preserved c =
    let j = c.loop-j.j in
    let now = c.max-greatest.result in
    let is : now ≡ max c.loop-j.greatest (slice_index c.args.self.now.greatest j) = search rules in
    let i = c.loop-j.invariant in
    record {
      all = below_more (λ k. slice_index c.args.self.now.greatest k ≤ now) j (λ k l. let before = i.all k l in omega (arith, before, is)) (omega (arith, is));
    }
