use Rattle.std.proofs.Common.{IsSome, ◌≡◌}
use Rattle.gfxspec.proofs.to_write.ToWriteSink.put.Given as goal

-- an interrupted write took nothing
abbrev pub invariant-loop : goal.invariant-loop
invariant-loop g l =
    let contents = g.W.Write.contents in
    record {
      sound : l.self.failures ≡ l.fn.self.failures;
      same : IsSome (contents l.fn.self.writer) → contents l.self.writer ≡ contents l.fn.self.writer;
    }
