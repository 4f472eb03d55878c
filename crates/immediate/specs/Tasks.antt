-- What a context runs, and what comes of it (Microsoft Learn, ID3D11DeviceContext::ExecuteCommandList, Flush).
use Rattle.std.specs.Prelude.{◌≡◌, List, [], Result, OnOk, OnErr, IfErr}
use Rattle.gfxspec.specs.declared.error.GfxError.{GfxError}
use Rattle.gfxspec.specs.declared.error.GfxError.TheVariants.{OutOfMemory}
use Rattle.gfxspec.specs.Commands.{Command}
use Rattle.immediate.specs.declared.task.Task.{Task}
use Rattle.immediate.specs.declared.task.Task.TheVariants.{Settle, Execute, Enqueue}
use Rattle.immediate.specs.Held.{Held, Stays, Ran, Executed, MayHaveRun}

-- it was run
abbrev pub IsPerformed : Task → List Command → Held → Held → Type 0
IsPerformed Settle list old new = Stays old new × (new.waiting ≡ [])
IsPerformed (Execute restore) list old new = Ran list restore old new
IsPerformed (Enqueue restore) list old new = Executed list restore old new

-- it was run, or without memory a part of what came before it
pub record Performs (task : Task) (list : List Command) (old new : Held) (result : Result (Unit {0}) GfxError) : Type 0 where
  pub ok : OnOk result (IsPerformed task list old new)
  pub memory : IfErr result (λ e. e ≡ OutOfMemory)
  pub left : OnErr result (MayHaveRun old new)
