use Rattle.std.proofs.Common.{◌≡◌, ◌≤◌, length, map}
use Rattle.gfxspec.specs.declared.geometry.Size.{Size}
use Rattle.scenetext.specs.Seen.{line_value}
use Rattle.sessions.proofs.Steps.{said}
use Rattle.sessions.proofs.ending.asked.Given as goal

abbrev pub invariant-loop-line : goal.invariant-loop-line
invariant-loop-line g l = record {
  few : l.count ≤ l.line-index;
  counted : (size : Size) → length (said size (map line_value l.fn.lines) l.line-index) ≡ l.count;
}
