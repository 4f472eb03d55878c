-- Which places of a list or of a strip make its triangles.
use Rattle.std.specs.Prelude.{◌≡◌, ℕ, ◌+◌, ◌-◌, ◌*◌, ◌/◌, ◌%◌, ◌<◌, true, List, length, slice_get, slice_index_or, Some}
use Rattle.gfxspec.specs.declared.geometry.Vertex.{Vertex}
use Rattle.gfxspec.specs.Assembly.{Primitive, list_primitives, strip_primitives, origin}

-- the triangle of three places
abbrev pub at_places : List Vertex → ℕ → ℕ → ℕ → Primitive
at_places vs i j k =
    record { first = slice_index_or vs i origin; second = slice_index_or vs j origin; third = slice_index_or vs k origin }

-- of a list of places each three make a triangle, and an incomplete one is dropped
abbrev pub ListTakesThrees : Type 0
ListTakesThrees =
    (vs : List Vertex) (i : ℕ) → 3 * i + 2 < length vs → slice_get (list_primitives vs) i ≡ Some (at_places vs (3 * i) (3 * i + 1) (3 * i + 2))

abbrev pub ListDropsIncomplete : Type 0
ListDropsIncomplete = (vs : List Vertex) → length (list_primitives vs) ≡ length vs / 3

-- each place of a strip and the two behind it make a triangle; from an odd place on the last two change their order
abbrev pub StripTakesEven : Type 0
StripTakesEven =
    (vs : List Vertex) (i : ℕ) → i % 2 ≡ 0 → i + 2 < length vs → slice_get (strip_primitives true vs) i ≡ Some (at_places vs i (i + 1) (i + 2))

abbrev pub StripTakesOdd : Type 0
StripTakesOdd =
    (vs : List Vertex) (i : ℕ) → i % 2 ≡ 1 → i + 2 < length vs → slice_get (strip_primitives true vs) i ≡ Some (at_places vs i (i + 2) (i + 1))

abbrev pub StripDropsIncomplete : Type 0
StripDropsIncomplete = (vs : List Vertex) → length (strip_primitives true vs) ≡ length vs - 2
