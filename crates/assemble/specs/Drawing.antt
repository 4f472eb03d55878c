-- The triangles of a draw.
use Rattle.std.specs.Prelude.{ℕ, ◌+◌, ◌-◌, ◌/◌, ◌≤◌, List, length, Option, Some, None}
use Rattle.std.specs.Borrow.{Bor}
use Rattle.gfxspec.specs.declared.state.Topology.{Topology}
use Rattle.gfxspec.specs.declared.state.Topology.TheVariants.{TriangleList, TriangleStrip}
use Rattle.gfxspec.specs.Assembly.{Primitive, part, primitives, indexed_primitives}
use Rattle.assemble.specs.declared.draws.Draw.{Draw}
use Rattle.assemble.specs.Used.{AreUsedWell}

-- the range of a draw by indices lies within them, and those that it uses name vertices
pub record HasIndices (d : Draw) (indices : List ℕ) : Type 0 where
  pub range : d.start + d.count ≤ length indices
  pub used : AreUsedWell d.topology d.vertices.now d.base (part d.count d.start indices)

abbrev pub IsInRangeOf : Option (Bor (List ℕ)) → Draw → Type 0
IsInRangeOf None d = d.start + d.count ≤ length d.vertices.now
IsInRangeOf (Some indices) d = HasIndices d indices.now

-- the range of a draw lies within its buffer, and each index in it with the base names a vertex, but the cuts of a strip
abbrev pub IsInRange : Draw → Type 0
IsInRange d = IsInRangeOf d.indices d

abbrev pub triangles_by : Option (Bor (List ℕ)) → Draw → List Primitive
triangles_by None d = primitives d.topology (part d.count d.start d.vertices.now)
triangles_by (Some indices) d = indexed_primitives d.topology d.vertices.now d.base (part d.count d.start indices.now)

-- the triangles of a draw, in order
abbrev pub triangles_of : Draw → List Primitive
triangles_of d = triangles_by d.indices d

-- so many triangles are so many vertices, where no index cuts a strip
abbrev pub uncut_triangles : Topology → ℕ → ℕ
uncut_triangles TriangleList count = count / 3
uncut_triangles TriangleStrip count = count - 2
