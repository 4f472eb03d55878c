-- What a handle owns says the same to every thread: what it holds does, and the heap takes its block back on any.
use mir.Raw.{raw}
use base.Shift.{Keyless}
use denote.Memory.{lone}
use denote.Param.Send.{IsSend, owning_send, struct_send, sendable}
use denote.Builtin.{RawPtr}
use denote.RawPtr.{Ptr}
use denote.Struct.Struct.{exits_of}
use denote.Struct.Owning.{shape, fields, to}
use Rattle.std_alloc.proofs.SendSync.{quiet, lies}
use Rattle.std.proofs.Crossing.{frees}
use Rattle.std.proofs.alloc.Global.TheSendSync as heap_crosses
use Rattle.std.specs.contracts.alloc.Global as heap
use Rattle.std.specs.contracts.impls.GlobalAllocator.TheImpl.{ghosts}
use Rattle.std.specs.Prelude.{List, Option, Some, None}
use Rattle.recorders.specs.Recording.{Recording}
use Rattle.player.proofs.lines.Player.TheSendSync as held_crosses
use Rattle.handles.specs.Heap.{the_heap}
use Rattle.handles.specs.Players.{described, owned}
use Rattle.handles.specs.contracts.playing.PlayerHandle.{the_row, the_type}

crosses : IsSend described
crosses = held_crosses.the_send heap.the_row ghosts heap_crosses.the_send heap_crosses.the_sync frees

keyless : (p : Ptr) (v : Option (List Recording)) → Keyless (owned p v)
keyless p None = tt
keyless p (Some held) = (lies described crosses p held, frees.frees the_heap (raw (lone described.mir)) p)

pub send : IsSend the_row
send = let ps : IsSend RawPtr = search sendable in owning_send the_type (ps, tt) (λ d. keyless d.at d.value)
    (λ k. quiet (to the_type) (exits_of k (fields the_type)) ((struct_send (shape the_type) (ps, tt)).leaving k))
