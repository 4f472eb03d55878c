use Rattle.std.proofs.Common.{◌≡◌}
use Rattle.recorders.specs.Receiving.{IsMore}
use Rattle.recorders.proofs.received.ReceivedLists.take_all.Given as goal

abbrev pub invariant-loop : goal.invariant-loop
invariant-loop g l = record {
  more : IsMore l.initial.self l.self;
  same : l.self.recorders ≡ l.initial.self.recorders;
}
