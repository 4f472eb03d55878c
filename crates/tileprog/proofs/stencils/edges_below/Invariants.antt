use Rattle.std.proofs.Common.{◌≡◌, ◌+◌}
use Rattle.tileprog.proofs.stencils.edges_below.Given as goal

abbrev pub invariant-loop : goal.invariant-loop
invariant-loop l = record { edges : l.edges ≡ record l.fn.edges { y = l.fn.edges.y + l.counter } }
