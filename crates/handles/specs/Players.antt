-- What a handle of a player owns.
use Rattle.std.specs.Prelude.{List, Option, Some, None}
use base.Fml.{Fml, ftrue}
use denote.RattleType.{RattleType}
use Rattle.std.specs.Ptr.{Ptr}
use Rattle.std.specs.Box.Ownership.{box_owns}
use Rattle.std.specs.contracts.impls.GlobalAllocator.TheImpl.{ghosts}
use Rattle.std.specs.contracts.alloc.Global as heap
use Rattle.handles.specs.Heap.{the_heap}
use Rattle.recorders.specs.Recording.{Recording}
use Rattle.player.specs.contracts.lines.Player as it

-- a player as the logic describes it
abbrev pub described : RattleType
described = it.the_row heap.the_row ghosts

-- a player in a block of the heap, and the right to free the block; or nothing
abbrev pub owned : Ptr → Option (List Recording) → Fml
owned p None = ftrue
owned p (Some held) = box_owns (ghosts.dealloc_token the_heap) described p held
