-- Indices that a draw may use.
use Rattle.std.specs.Prelude.{ℕ, ℤ, List, length, IsTrue, Some}
use Rattle.std.specs.List.{list_all}
use Rattle.gfxspec.specs.declared.geometry.Vertex.{Vertex}
use Rattle.gfxspec.specs.declared.state.Topology.{Topology}
use Rattle.gfxspec.specs.Refusals.{is_used_well}

-- each index with the base names a vertex, but the cuts of a strip
abbrev pub AreUsedWell : Topology → List Vertex → ℤ → List ℕ → Type 0
AreUsedWell topology vs base indices = IsTrue (list_all (is_used_well (Some topology) (length vs) base) indices)
