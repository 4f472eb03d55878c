use Rattle.pixelevents.proofs.PlaceLaws.{places_name, places_name_triangles}
use Rattle.pixelevents.proofs.place_laws.Goals as goal

pub returns : goal.returns
returns c = record {
  items = places_name;
  triangles = places_name_triangles;
}
