use Rattle.std.proofs.Common.{false, take}
use Rattle.scenetext.specs.Reading.{HasForm}
use Rattle.scenetext.proofs.text.formed_end.Given as goal

abbrev pub invariant-loop-i : goal.invariant-loop-i
invariant-loop-i l = HasForm false (take l.i l.text) l.form
