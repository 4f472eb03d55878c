use Rattle.assemble.specs.Drawing.{triangles_of}
use Rattle.command.specs.Seen.{state_value}
use Rattle.binner.proofs.Readying.{AreReady}
use Rattle.pixelhistory.proofs.Taking.{Took}
use Rattle.pixelhistory.proofs.trace.trace_draw.Given as goal

abbrev pub invariant-loop-tri : goal.invariant-loop-tri
invariant-loop-tri g l =
    record {
      can_next : (goal.iterator-loop-tri g).can_next l.tri-iterator;
      is_finite : (goal.iterator-loop-tri g).is_finite l.tri-iterator;
      ready : AreReady l.tri-iterator;
      took : Took (state_value l.fn.state) l.x l.y (triangles_of l.fn.draw) l.tri-iterator l.fn.trace l.trace;
    }
