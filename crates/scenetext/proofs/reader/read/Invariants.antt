use Rattle.std.proofs.Common.{length, map}
use Rattle.scenetext.specs.Seen.{line_value}
use Rattle.scenetext.proofs.LoopLemmas.{SoFar}
use Rattle.scenetext.proofs.reader.read.Given as goal

abbrev pub invariant-loop-rest : goal.invariant-loop-rest
invariant-loop-rest g l = SoFar l.text l.size (map line_value l.lines.items) l.finished l.rest

abbrev pub decreases-loop-rest : goal.decreases-loop-rest
decreases-loop-rest g l = length l.rest
