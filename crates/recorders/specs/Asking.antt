-- What lists are asked of: the lines of a scene, and the queue by which its lists come, if they come by one.
use Rattle.std.specs.Prelude.{List, Option}
use Rattle.atomic_table.specs.Seated.{TableId}
use Rattle.scenetext.specs.Scene.{Line}

pub record Asked : Type 0 where
  pub lines : List Line
  pub queue : Option TableId
