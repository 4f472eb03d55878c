use Rattle.std.proofs.Common.{◌≡◌, ◌+◌}
use Rattle.tileprog.proofs.stencils.depths_below.Given as goal

abbrev pub invariant-loop : goal.invariant-loop
invariant-loop g l =
    let start = g.W.Walks.place l.fn.walk in
    record { walk : g.W.Walks.place l.walk ≡ record start { y = start.y + l.counter } }
