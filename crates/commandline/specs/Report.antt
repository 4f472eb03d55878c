-- The status of the program, and what it says on standard error.
use Rattle.std.specs.Prelude.{ℕ, List, [], Result, Ok, Err, codes}
use Rattle.sessions.specs.declared.outcome.Ended.{Ended}
use Rattle.sessions.specs.declared.outcome.Ended.TheVariants as ended
use Rattle.sessions.specs.declared.outcome.SessionFault.{SessionFault}
use Rattle.sessions.specs.declared.outcome.SessionFault.TheVariants as faults

-- by how the session ended, or which device failed
abbrev pub reported : Result Ended SessionFault → ℕ × List ℕ
reported (Ok ended.Done) = (0, [])
reported (Ok (ended.Refused line number)) = (1, [])
reported (Err faults.Read) = (3, codes "tiledraw: cannot read script")
reported (Err (faults.Lines taken)) = (3, codes "tiledraw: cannot write answers")
reported (Err (faults.Image taken)) = (3, codes "tiledraw: cannot write image")
