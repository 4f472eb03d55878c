use Rattle.command.specs.Seen.{state_value}
use Rattle.cmdlist.specs.Drawable.{told}
use Rattle.pixelhistory.proofs.Passing.{Passed}
use Rattle.pixelhistory.proofs.session.trace_list.Given as goal

abbrev pub invariant-loop-command : goal.invariant-loop-command
invariant-loop-command g l = Passed (told l.results) l.commands l.steps l.x l.y l.command-index l.number (state_value l.state) l.fn.trace l.trace
