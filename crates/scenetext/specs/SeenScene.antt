-- A scene of the code as a plain one.
use Rattle.scenetext.specs.declared.scene.Scene as code
use Rattle.std.specs.Prelude.{map}
use Rattle.scenetext.specs.Scene.{Scene}
use Rattle.scenetext.specs.Seen.{line_value}

abbrev pub scene_value : {A : Type 0} → code.Scene A → Scene
scene_value s = record { size = s.size; lines = map line_value s.lines.items }
