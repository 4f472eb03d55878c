use Rattle.std.proofs.Common.{rules}
use Rattle.gfxspec.proofs.to_write.ToWriteSink.put.Goals as goal

pub loop-init : goal.loop-init
loop-init g c = search rules

pub write-requires : goal.write-requires
write-requires g c κs = search rules

pub is_empty-requires : goal.is_empty-requires
is_empty-requires g c κs = search rules

pub returns-then-count-gt0-clause-count : goal.returns-then-count-gt0-clause-count
returns-then-count-gt0-clause-count g c = search rules

pub returns-then-count-gt0-clause-some : goal.returns-then-count-gt0-clause-some
returns-then-count-gt0-clause-some g c = search rules

pub returns-then-count-gt0-clause-told : goal.returns-then-count-gt0-clause-told
returns-then-count-gt0-clause-told g c = search rules

pub returns-then-count-gt0-clause-bytes : goal.returns-then-count-gt0-clause-bytes
returns-then-count-gt0-clause-bytes g c = search rules

pub returns-then-count-gt0-clause-moves_none : goal.returns-then-count-gt0-clause-moves_none
returns-then-count-gt0-clause-moves_none g c = search rules

pub returns-then-count-gt0-clause-sound : goal.returns-then-count-gt0-clause-sound
returns-then-count-gt0-clause-sound g c = search rules

pub returns-then-count-gt0-clause-failed : goal.returns-then-count-gt0-clause-failed
returns-then-count-gt0-clause-failed g c = search rules

pub kind-requires : goal.kind-requires
kind-requires g c = search rules

pub ne-requires : goal.ne-requires
ne-requires g c κs = search rules

pub loop-smaller : goal.loop-smaller
loop-smaller g c = search rules

pub loop-preserved : goal.loop-preserved
loop-preserved g c = search rules

pub overflow_add-self : goal.overflow_add-self
overflow_add-self g c = search rules

pub returns-clause-count : goal.returns-clause-count
returns-clause-count g c = search rules

pub returns-clause-some : goal.returns-clause-some
returns-clause-some g c = search rules

pub returns-clause-told : goal.returns-clause-told
returns-clause-told g c = search rules

pub returns-clause-bytes : goal.returns-clause-bytes
returns-clause-bytes g c = search rules

pub returns-clause-moves_none : goal.returns-clause-moves_none
returns-clause-moves_none g c = search rules

pub returns-clause-sound : goal.returns-clause-sound
returns-clause-sound g c = search rules

pub returns-clause-failed : goal.returns-clause-failed
returns-clause-failed g c = search rules
