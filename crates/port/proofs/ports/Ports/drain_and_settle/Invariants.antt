use Rattle.std.proofs.Common.{◌≡◌, ◌++◌, List}
use Rattle.port.specs.declared.submission.Submission.{Submission}
use Rattle.port.proofs.ports.Ports.drain_and_settle.Given as goal

abbrev pub invariant-loop : goal.invariant-loop
invariant-loop g l = record {
  ports : l.ports.queue ≡ l.fn.self.queue;
  passes : l.passes ≡ l.fn.passes;
  drain : l.drain.queue ≡ l.fn.self.queue;
  more : (rest : List (Submission _)) × (l.drain.taken ≡ l.fn.drain.taken ++ rest);
}
