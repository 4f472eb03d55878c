use Rattle.std.proofs.Common.{◌≡◌, ◌++◌, ◌-◌, ◌^◌, length}
use Rattle.gfxspec.proofs.transfer.gather.Given as goal

abbrev pub invariant-loop-count : goal.invariant-loop-count
invariant-loop-count g l =
    let device = g.S.Source in
    record {
      sound : device.failures l.source ≡ device.failures l.fn.source;
      told : device.tells l.fn.source → device.tells l.source;
      bytes : device.tells l.fn.source → device.rest l.fn.source ≡ l.bytes.items ++ device.rest l.source;
      piece : length l.piece ≡ 32768;
    }

abbrev pub decreases-loop-count : goal.decreases-loop-count
decreases-loop-count g l = 2 ^ 64 - length l.bytes.items
