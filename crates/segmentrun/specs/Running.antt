-- The segments of a job that run (this project's own).
use Rattle.std.specs.Prelude.{List, take, drop}
use Rattle.gfxspec.specs.Commands.{Command}
use Rattle.segmentrun.specs.declared.job.SegmentJob.{SegmentJob}

-- so many from the first on
abbrev pub running : {A : Type 0} → SegmentJob A → List (List Command)
running job = take job.count (drop job.first job.segments.items)
