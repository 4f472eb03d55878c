use Rattle.std.proofs.Common.{List}
use Rattle.std.specs.Prelude.{All}
use Rattle.std.specs.Vec.Iter.{into_iter_items}
use Rattle.scenetext.specs.Scene.{Line}
use Rattle.recorders.specs.Apart.{IsListed}
use Rattle.recorders.specs.Rows.{AreRows}
use Rattle.recorders.proofs.rows.ListRows.add_all.Given as goal

abbrev pub invariant-loop-recorded : goal.invariant-loop-recorded
invariant-loop-recorded g l =
    (ls : List Line) → All (IsListed ls) l.fn.kept.items → AreRows ls l.initial.self → AreRows ls l.self × All (IsListed ls) (into_iter_items l.recorded-iterator)
