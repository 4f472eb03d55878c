use Rattle.std.proofs.Common.{◌≡◌, ◌++◌, map}
use Rattle.assemble.specs.Drawing.{triangles_of}
use Rattle.binner.proofs.Readying.{AreReady}
use Rattle.binner.proofs.Slices.{primitive_at}
use Rattle.binner.proofs.ahead.gathered.Given as goal

abbrev pub invariant-loop-tri : goal.invariant-loop-tri
invariant-loop-tri g l =
    record {
      can_next : (goal.iterator-loop-tri g).can_next l.tri-iterator;
      is_finite : (goal.iterator-loop-tri g).is_finite l.tri-iterator;
      ready : AreReady l.tri-iterator;
      whole : map primitive_at l.tris.items ++ l.tri-iterator ≡ triangles_of l.fn.draw;
    }
