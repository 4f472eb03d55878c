use Rattle.std.proofs.Common.{◌*◌}
use Rattle.tileprog.specs.Alike.{operated}
use Rattle.tileprog.proofs.Places.{ColumnsChanged}
use Rattle.tileprog.proofs.alike.operate.Given as goal

abbrev pub invariant-loop-pair : goal.invariant-loop-pair
invariant-loop-pair l = record { so_far : ColumnsChanged (operated l.test l.deep) l.fn.block l.block (2 * l.pair) }
