use Rattle.std.proofs.Common.{◌<◌, ◌≤◌}
use Rattle.binner.proofs.Dividing.{Left}
use Rattle.binner.proofs.segment.OpenSegment.add_parts.Given as goal

abbrev pub invariant-loop-room : goal.invariant-loop-room
invariant-loop-room g l = record {
  left : Left l.fn.draw.base l.fn.draw.count l.fn.draw.start l.fn.segments.items l.fn.self l.count l.start l.segments.items l.opened;
  some : 0 < l.room;
  few : l.room ≤ 65536;
}

abbrev pub decreases-loop-room : goal.decreases-loop-room
decreases-loop-room g l = l.count
