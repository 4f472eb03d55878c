use Rattle.std.proofs.Common.{◌≡◌, ap}
use Rattle.port.specs.History.{DrainHistory}
use Rattle.recorders.specs.Ports.{at_port}
use Rattle.recorders.proofs.PortLemmas.{each_port}
use Rattle.recorders.proofs.RowLemmas.{rows_none}
use Rattle.recorders.proofs.received.receive.Goals as goal

pub invariant_of-result : goal.invariant_of-result
invariant_of-result g c = (
  ap (λ (d : DrainHistory _). d.queue) c.requires.drain_is,
  each_port (λ p. (at_port (record { 0 = c.start.result; 1 = c.start-2.result; 2 = c.start-3.result; 3 = c.start-4.result }) p).task ≡ record { lines = c.args.setup.lines.now; queue = c.args.setup.ports.now.queue; number = p }) c.start.ensures c.start-2.ensures c.start-3.ensures c.start-4.ensures,
  λ agrees. rows_none c.args.setup.lines.now c.new.result c.new.ensures,
)
