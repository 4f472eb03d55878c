use Rattle.std.proofs.Common.{◌≡◌, ◌++◌, ◌-◌, ◌≤◌, length, take}
use Rattle.gfxspec.proofs.transfer.put_all.Given as goal

abbrev pub invariant-loop-taken : goal.invariant-loop-taken
invariant-loop-taken g l =
    let device = g.W.Sink in
    record {
      sound : device.failures l.sink ≡ device.failures l.fn.sink;
      told : device.tells l.fn.sink → device.tells l.sink;
      bytes : device.tells l.fn.sink → device.written l.sink ≡ device.written l.fn.sink ++ take l.taken l.bytes;
      count : l.taken ≤ length l.bytes;
    }

abbrev pub decreases-loop-taken : goal.decreases-loop-taken
decreases-loop-taken g l = length l.bytes - l.taken
