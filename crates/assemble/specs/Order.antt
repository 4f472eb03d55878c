-- How the triangles of the places that are left follow one another.
use Rattle.std.specs.Prelude.{ℕ, ℤ, Bool, true, false, List, [], ◌∷◌, ◌++◌}
use Rattle.std.specs.List.{flat_map}
use Rattle.gfxspec.specs.declared.geometry.Vertex.{Vertex}
use Rattle.gfxspec.specs.declared.state.Topology.{Topology}
use Rattle.gfxspec.specs.declared.state.Topology.TheVariants.{TriangleList, TriangleStrip}
use Rattle.gfxspec.specs.Assembly.{Primitive, list_primitives, strip_primitives, runs, vertices_at}
use Rattle.assemble.specs.declared.places.Order.{Order}
use Rattle.assemble.specs.declared.places.Order.TheVariants as O

abbrev pub topology_of : Order → Topology
topology_of O.List = TriangleList
topology_of O.Even = TriangleStrip
topology_of O.Odd = TriangleStrip

-- the triangle of three places
abbrev pub arranged_of : Order → Vertex → Vertex → Vertex → Primitive
arranged_of O.List a b c = record { first = a; second = b; third = c }
arranged_of O.Even a b c = record { first = a; second = b; third = c }
arranged_of O.Odd a b c = record { first = a; second = c; third = b }

abbrev pub step_of : Order → ℕ
step_of O.List = 3
step_of O.Even = 1
step_of O.Odd = 1

abbrev pub following_of : Order → Order
following_of O.List = O.List
following_of O.Even = O.Odd
following_of O.Odd = O.Even

-- the triangles of the vertices that are left
abbrev pub left_of : Order → List Vertex → List Primitive
left_of O.List vs = list_primitives vs
left_of O.Even vs = strip_primitives true vs
left_of O.Odd vs = strip_primitives false vs

-- the triangles of runs of which the first begins at an even or an odd place, and each other anew
abbrev pub strips_from : Bool → List Vertex → ℤ → List (List ℕ) → List Primitive
strips_from even vs base [] = []
strips_from even vs base (run ∷ others) =
    strip_primitives even (vertices_at vs base run) ++ flat_map (λ run. strip_primitives true (vertices_at vs base run)) others

-- the triangles of the indices that are left
abbrev pub indexed_left : Order → List Vertex → ℤ → List ℕ → List Primitive
indexed_left O.List vs base indices = list_primitives (vertices_at vs base indices)
indexed_left O.Even vs base indices = strips_from true vs base (runs indices)
indexed_left O.Odd vs base indices = strips_from false vs base (runs indices)
