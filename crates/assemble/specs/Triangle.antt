-- An assembled triangle, as the definitions see it.
use Rattle.std.specs.Prelude.{slice_index_or}
use Rattle.gfxspec.specs.Assembly.{Primitive, origin}
use Rattle.assemble.specs.declared.places.Tri.{Tri}

abbrev pub primitive_of : Tri → Primitive
primitive_of t =
    record { first = slice_index_or t.v 0 origin; second = slice_index_or t.v 1 origin; third = slice_index_or t.v 2 origin }
