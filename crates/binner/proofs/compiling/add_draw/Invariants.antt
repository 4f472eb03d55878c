use Rattle.assemble.specs.Drawing.{triangles_of}
use Rattle.command.specs.Seen.{state_value}
use Rattle.binner.proofs.Readying.{AreReady}
use Rattle.binner.proofs.Drawing.{Drew}
use Rattle.binner.proofs.Remembering.{Made}
use Rattle.binner.proofs.compiling.add_draw.Given as goal

abbrev pub invariant-loop-tri : goal.invariant-loop-tri
invariant-loop-tri g l =
    record {
      can_next : (goal.iterator-loop-tri g).can_next l.tri-iterator;
      is_finite : (goal.iterator-loop-tri g).is_finite l.tri-iterator;
      ready : AreReady l.tri-iterator;
      drew : Drew l.fn.compiling l.compiling (state_value l.fn.state) l.fn.issues l.current (triangles_of l.fn.draw) l.tri-iterator;
      made : Made l.fn.compiling l.compiling (state_value l.fn.state) (triangles_of l.fn.draw) l.tri-iterator;
    }
