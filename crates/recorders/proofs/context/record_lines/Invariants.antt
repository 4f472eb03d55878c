use Rattle.std.proofs.Common.{◌≡◌, ◌≤◌, ◌+◌, length}
use Rattle.std.specs.Prelude.{All}
use Rattle.recorders.specs.Apart.{IsListed}
use Rattle.recorders.specs.Dealing.{place_at}
use Rattle.recorders.proofs.Steps.{IsAt}
use Rattle.recorders.proofs.context.record_lines.Given as goal

abbrev pub invariant-loop-next : goal.invariant-loop-next
invariant-loop-next g l = record {
  way : g.S.ListSink.way l.sink ≡ g.S.ListSink.way l.fn.sink;
  first : IsAt l.lines l.number (place_at l.number l.lines l.next) l.first;
  second : IsAt l.lines (l.number + 4) (place_at l.number l.lines l.next) l.second;
  few : (l.first.end.lists ≤ l.next) × (l.second.end.lists ≤ l.next);
  listed : All (IsListed l.lines) (g.S.ListSink.put_lists l.fn.sink) → All (IsListed l.lines) (g.S.ListSink.put_lists l.sink);
  whole : length (g.S.ListSink.put_lists l.sink) ≡ length (g.S.ListSink.put_lists l.fn.sink) + l.first.end.lists + l.second.end.lists;
}
