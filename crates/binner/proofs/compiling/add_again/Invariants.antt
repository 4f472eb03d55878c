use Rattle.std.proofs.Common.{◌-◌, ◌≡◌}
use Rattle.gfxspec.specs.Assembly.{part}
use Rattle.assemble.specs.Drawing.{triangles_of}
use Rattle.command.specs.Seen.{state_value}
use Rattle.binner.proofs.Filling.{Filled}
use Rattle.binner.proofs.compiling.add_again.Given as goal

abbrev pub invariant-loop-number : goal.invariant-loop-number
invariant-loop-number g l = record {
  table : l.compiling.triangles ≡ l.fn.compiling.triangles;
  filled : Filled l.fn.compiling l.compiling (state_value l.fn.state) l.fn.issues l.current (triangles_of l.fn.draw) (part (l.fn.numbers.end - l.number) l.number l.fn.compiling.triangles);
}
