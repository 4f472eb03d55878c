use Rattle.std.proofs.Common.{◌≡◌, take}
use Rattle.binner.specs.Compiling.{HasCompiled}
use Rattle.cmdlist.specs.Drawable.{told}
use Rattle.binner.specs.Segments.{cut_items}
use Rattle.segmentrun.proofs.compiling.compile_all.Given as goal

abbrev pub invariant-loop-segment : goal.invariant-loop-segment
invariant-loop-segment g l = record {
  size : l.batch.lists.size ≡ l.fn.size;
  compiled : HasCompiled l.batch (cut_items (told l.fn.results) (take l.segment-index l.fn.segments));
}
