-- The triangles of a draw, the leading vertex first (Direct3D 11.3 Functional Specification, "Input Assembler Stage": primitive topologies, cuts of indexed strips).
use Rattle.std.specs.Prelude.{ℕ, ℤ, pos, ◌+ℤ◌, unsigned_abs, Bool, true, false, ◌==◌, List, [], ◌∷◌, map, take, drop, slice_index_or, Option, Some, None}
use Rattle.std.specs.List.{flat_map, slice_split}
use Rattle.gfxspec.specs.declared.geometry.Vertex.{Vertex}
use Rattle.gfxspec.specs.declared.state.Topology.{Topology}
use Rattle.gfxspec.specs.declared.state.Topology.TheVariants.{TriangleList, TriangleStrip}
use Rattle.gfxspec.specs.State.{Settings}

-- three vertices, the leading one first
pub record Primitive : Type 0 where
  pub first : Vertex
  pub second : Vertex
  pub third : Vertex

-- each three places of a list are a triangle
abbrev pub list_primitives : List Vertex → List Primitive
list_primitives (a ∷ b ∷ c ∷ vs) = record { first = a; second = b; third = c } ∷ list_primitives vs
list_primitives vs = []

-- each three places of a strip that follow each other are a triangle; from an odd place on the last two change their order
abbrev pub strip_primitives : Bool → List Vertex → List Primitive
strip_primitives even [] = []
strip_primitives even (a ∷ []) = []
strip_primitives even (a ∷ b ∷ []) = []
strip_primitives true (a ∷ b ∷ c ∷ vs) = record { first = a; second = b; third = c } ∷ strip_primitives false (b ∷ c ∷ vs)
strip_primitives false (a ∷ b ∷ c ∷ vs) = record { first = a; second = c; third = b } ∷ strip_primitives true (b ∷ c ∷ vs)

abbrev pub primitives : Topology → List Vertex → List Primitive
primitives TriangleList vs = list_primitives vs
primitives TriangleStrip vs = strip_primitives true vs

-- the index that cuts a strip
abbrev pub is_cut : ℕ → Bool
is_cut index = index == 65535

-- the indices between cuts
abbrev pub runs : List ℕ → List (List ℕ)
runs indices = slice_split is_cut indices

abbrev pub origin : Vertex
origin = record { x = pos 0; y = pos 0; z = 0; rgba = 0 ∷ 0 ∷ 0 ∷ 0 ∷ [] }

-- the vertex that an index and the base name
abbrev pub vertex_at : List Vertex → ℤ → ℕ → Vertex
vertex_at vs base index = slice_index_or vs (unsigned_abs (pos index +ℤ base)) origin

abbrev pub vertices_at : List Vertex → ℤ → List ℕ → List Vertex
vertices_at vs base indices = map (vertex_at vs base) indices

-- Of a list each index is an ordinary one; of a strip a cut ends the triangles, and begins them anew.
abbrev pub indexed_primitives : Topology → List Vertex → ℤ → List ℕ → List Primitive
indexed_primitives TriangleList vs base indices = list_primitives (vertices_at vs base indices)
indexed_primitives TriangleStrip vs base indices =
    flat_map (λ run. strip_primitives true (vertices_at vs base run)) (runs indices)

-- what a draw takes of a buffer
abbrev pub part : {A : Type 0} → ℕ → ℕ → List A → List A
part count start xs = take count (drop start xs)

abbrev pub drawn_primitives : Option Topology → List Vertex → List Primitive
drawn_primitives None vs = []
drawn_primitives (Some topology) vs = primitives topology vs

abbrev pub drawn_indexed : Option Topology → List Vertex → ℤ → List ℕ → List Primitive
drawn_indexed None vs base indices = []
drawn_indexed (Some topology) vs base indices = indexed_primitives topology vs base indices

-- the triangles of a draw without indices
abbrev pub draw_primitives : Settings → ℕ → ℕ → List Primitive
draw_primitives s count start = drawn_primitives s.topology (part count start s.vertices)

-- the triangles of a draw by indices
abbrev pub draw_indexed_primitives : Settings → ℕ → ℕ → ℤ → List Primitive
draw_indexed_primitives s count start base = drawn_indexed s.topology s.vertices base (part count start s.indices)
