use Rattle.pixelevents.proofs.Filling.{Filled}
use Rattle.pixelevents.proofs.told.fill_events.Given as goal

abbrev pub invariant-loop-number : goal.invariant-loop-number
invariant-loop-number l = Filled l.events l.number l.fn.area l.area
