use Rattle.std.proofs.Common.{◌≡◌, ℤ, List, length}
use Rattle.gfxspec.specs.declared.geometry.Vertex.{Vertex}
use Rattle.gfxspec.specs.declared.state.Topology.TheVariants.{TriangleStrip}
use Rattle.assemble.specs.Order.{indexed_left, topology_of}
use Rattle.assemble.specs.Used.{AreUsedWell}
use Rattle.assemble.proofs.places.past_cuts.Given as goal

abbrev pub invariant-loop-behind : goal.invariant-loop-behind
invariant-loop-behind l = record {
  strip : topology_of l.order ≡ TriangleStrip;
  triangles : (vs : List Vertex) (base : ℤ) → indexed_left l.order vs base l.rest ≡ indexed_left l.fn.begun vs base l.fn.indices;
  used : (vs : List Vertex) (base : ℤ) → AreUsedWell (topology_of l.fn.begun) vs base l.fn.indices → AreUsedWell (topology_of l.fn.begun) vs base l.rest;
}

abbrev pub decreases-loop-behind : goal.decreases-loop-behind
decreases-loop-behind l = length l.rest
