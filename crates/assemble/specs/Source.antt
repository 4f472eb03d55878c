-- Where the triangles of a draw come from.
use Rattle.std.specs.Prelude.{List}
use Rattle.gfxspec.specs.Assembly.{Primitive}
use Rattle.assemble.specs.declared.places.Source.{Source}
use Rattle.assemble.specs.declared.places.Source.TheVariants.{FromVertices, FromIndices}

-- the triangles that are left of it
abbrev pub left_in : Source → List Primitive
left_in (FromVertices left) = left
left_in (FromIndices left) = left
