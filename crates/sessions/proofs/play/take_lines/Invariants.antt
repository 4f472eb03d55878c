use Rattle.std.proofs.Common.{◌≡◌, ◌≤◌, ◌-◌, ℕ, List, [], take, true}
use Rattle.sessions.specs.Lists.{steps_of}
use Rattle.sessions.specs.Playing.{own_count, own_place, HasReached}
use Rattle.sessions.proofs.play.take_lines.Given as goal

abbrev pub invariant-loop-next : goal.invariant-loop-next
invariant-loop-next g l = record {
  below : l.next ≤ own_count l.fn.lines;
  frame : g.S.ListSource.frame l.lists ≡ g.S.ListSource.frame l.fn.lists;
  right : g.S.ListSource.right l.lists ≡ g.S.ListSource.right l.fn.lists;
  agrees : g.S.ListSource.agrees l.lists → g.S.ListSource.agrees l.fn.lists;
  reached : g.S.ListSource.agrees l.lists
      → (text : List ℕ) × (g.C.RecordsCalls.heard ≡ true → l.answers.items ≡ text) × HasReached (g.C.RecordsCalls.held l.fn.immediate).surface.size l.fn.lines (own_place l.fn.lines l.next) (g.C.RecordsCalls.held l.context) text;
  traced : (x y : ℕ) → g.C.RecordsCalls.traces (g.C.RecordsCalls.held l.fn.immediate).surface.size [] x y l.fn.immediate → g.S.ListSource.agrees l.lists
      → g.C.RecordsCalls.traces (g.C.RecordsCalls.held l.fn.immediate).surface.size (steps_of (take (own_place l.fn.lines l.next) l.fn.lines)) x y l.context;
}

abbrev pub decreases-loop-next : goal.decreases-loop-next
decreases-loop-next g l = own_count l.fn.lines - l.next
