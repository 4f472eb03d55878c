use Rattle.std.proofs.Common.{arith}
use Rattle.edges.proofs.EdgeSet.quads.Goals as goal

pub invariant_of-result : goal.invariant_of-result
invariant_of-result c =
    let of = c.self.invariant in
    record {
      first = c.of.ensures _ (of 0 (omega arith));
      second = c.of-2.ensures _ (of 1 (omega arith));
      third = c.of-3.ensures _ (of 2 (omega arith));
      real = (of 2 (omega arith)).not_flat;
      left = omega arith;
      top = omega arith;
    }
