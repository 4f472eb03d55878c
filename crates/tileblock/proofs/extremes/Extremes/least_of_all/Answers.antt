use Rattle.std.proofs.Common.{◌≡◌, arith, rules, ◌≤◌, below_more, slice_index, min}
use Rattle.tileblock.proofs.extremes.Extremes.least_of_all.Goals as goal

pub loop-j-preserved : goal.loop-j-preserved
loop-j-preserved c =
    let j = c.loop-j.j in
    let now = c.min-least.result in
    let is : now ≡ min c.loop-j.least (slice_index c.args.self.now.least j) = search rules in
    let i = c.loop-j.invariant in
    record {
      all = below_more (λ k. now ≤ slice_index c.args.self.now.least k) j (λ k l. let before = i.all k l in omega (arith, before, is)) (omega (arith, is));
    }
