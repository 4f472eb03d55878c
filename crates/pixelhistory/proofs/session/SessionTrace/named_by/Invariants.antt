use Rattle.std.proofs.Common.{◌≡◌, take}
use Rattle.pixelevents.specs.declared.Event.{Event}
use Rattle.pixelevents.specs.declared.Origin.{Origin}
use Rattle.pixelevents.specs.declared.NamedEvent.{NamedEvent}
use Rattle.pixelevents.specs.Named.{named_by}
use Rattle.pixelhistory.proofs.session.SessionTrace.named_by.Given as goal

abbrev pub invariant-loop-number : goal.invariant-loop-number
invariant-loop-number g l =
    (named : Event → Origin → NamedEvent) → ((e : Event) (origin : Origin) (n : NamedEvent) → g.F.Fn.post l.name (e, (origin, tt)) n → n ≡ named e origin)
    → l.events.items ≡ named_by named (take l.number l.self.trace.events.items) (take l.number l.self.origins.items)
