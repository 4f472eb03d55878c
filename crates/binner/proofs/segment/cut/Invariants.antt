use Rattle.binner.proofs.Accepted.{done}
use Rattle.binner.proofs.Cutting.{Cut}
use Rattle.binner.proofs.segment.cut.Given as goal

abbrev pub invariant-loop-command : goal.invariant-loop-command
invariant-loop-command g l = Cut l.fn.segments.items (done l.commands l.command-index) l.segments.items l.opened
