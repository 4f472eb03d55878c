use Rattle.std.proofs.Common.{IsSome, ◌≡◌}
use Rattle.gfxspec.proofs.from_read.FromReadSource.get.Given as goal

-- an interrupted read took nothing
abbrev pub invariant-loop : goal.invariant-loop
invariant-loop g l =
    let remaining = g.R.Read.remaining in
    record {
      sound : l.self.failures ≡ l.fn.self.failures;
      same : IsSome (remaining l.fn.self.reader) → remaining l.self.reader ≡ remaining l.fn.self.reader;
    }
