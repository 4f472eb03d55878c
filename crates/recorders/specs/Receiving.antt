-- The caller's side of the ports: which lists came from which recorder (this project's own).
use Rattle.std.specs.Prelude.{ℕ, ◌≡◌, ◌<◌, ◌≤◌, List, [], All, Option, Some, None}
use Rattle.atomic_table.specs.Seated.{TableId}
use Rattle.gfxspec.specs.Commands.{Command}
use Rattle.scenetext.specs.Scene.{Line}
use Rattle.port.specs.declared.submission.Submission.{Submission}
use Rattle.port.specs.History.{PortHistory, port_history, drain_history, AreAll}
use Rattle.recorders.specs.declared.ports.Passes.{Passes}
use Rattle.recorders.specs.declared.ports.Returned.{Returned}
use Rattle.recorders.specs.declared.ports.ByPort.{ByPort}
use Rattle.recorders.specs.declared.ports.Recorded.{Recorded}
use Rattle.recorders.specs.declared.recorder.RecorderResult.{RecorderResult}
use Rattle.recorders.specs.declared.refusal.RecordingEnd.{RecordingEnd}
use Rattle.recorders.specs.Ports.{at_port, in_order}
use Rattle.recorders.specs.Sinks.{lists_sent}
use Rattle.recorders.specs.Apart.{IsListed}
use Rattle.recorders.specs.Recording.{listed}
use Rattle.recorders.specs.Recorders.{AreEnded, end_in, port_of}
use Rattle.recorders.specs.Asking.{Asked}
use Rattle.recorders.specs.Ending.{AreEnds}

-- what was taken of the four ports are the lists that their contexts and numbers name
abbrev pub TakenAgrees : List Line → List (Submission (Recorded (List Command))) → Type 0
TakenAgrees ls taken = All (λ s. s.port < 4 → IsListed ls s.list) taken

-- what ports sent are the lists that their contexts and numbers name
abbrev pub SentAgrees : List Line → List (PortHistory (Recorded (List Command))) → Type 0
SentAgrees ls passes = All (λ h. All (IsListed ls) (lists_sent h.sent)) passes

-- passes that have sent nothing, each at its number, and a drain that has taken nothing
pub record AreNew {A : Type 0} (queue : TableId) (passes : Passes A) : Type 0 where
  pub zero_is : passes.recorders.0 ≡ port_history queue 0 []
  pub one_is : passes.recorders.1 ≡ port_history queue 1 []
  pub two_is : passes.recorders.2 ≡ port_history queue 2 []
  pub three_is : passes.recorders.3 ≡ port_history queue 3 []
  pub drain_is : passes.drain ≡ drain_history queue []

module _ {A : Type 0} where
  -- what a recorder was asked for
  pub record IsResultOf (ls : List Line) (queue : TableId) (number : ℕ) (r : RecorderResult A) : Type 0 where
    pub queue_is : r.pass.queue ≡ queue
    pub port_is : r.pass.port ≡ number
    pub sent : All (IsListed ls) (lists_sent r.pass.sent)
    pub kept : All (IsListed ls) r.kept.items
    pub ends : AreEnded ls number r.end

-- which lines a recorder has, the queue of its port, and the port's number
pub record Task : Type 0 where
  pub lines : List Line
  pub queue : TableId
  pub number : ℕ

-- a recorder as the caller holds it: what it was asked for, and what it handed over if it was joined
pub record RecorderSeen (A : Type 0) : Type 0 where
  pub task : Task
  pub result : Option (RecorderResult A)

pub record Receipts (A : Type 0) : Type 0 where
  pub lines : List Line
  pub queue : TableId
  pub taken : List (Submission (Recorded (List Command)))
  pub recorders : ByPort (RecorderSeen A)
  pub rows : List (List (List Command))

module _ {A : Type 0} where
  -- joined, and it did not finish the list of this number
  abbrev pub LacksBy : Option (RecorderResult A) → ℕ → ℕ → Type 0
  LacksBy None k n = ⊥
  LacksBy (Some r) k n = (end_in r.end k).lists ≤ n

  -- joined, and its contexts ended so
  abbrev pub EndsWith : Option (RecorderResult A) → RecordingEnd → Type 0
  EndsWith None end = ⊥
  EndsWith (Some r) end = r.end ≡ end

  -- the same recorders, but for what they handed over
  abbrev pub AreSameRecorders : ByPort (RecorderSeen A) → ByPort (RecorderSeen A) → Type 0
  AreSameRecorders old new = (p : ℕ) → (at_port new p).task ≡ (at_port old p).task

  abbrev pub AreRecorders : List Line → TableId → ByPort (RecorderSeen A) → Type 0
  AreRecorders ls queue recorders =
      (p : ℕ) → p < 4 → (at_port recorders p).task ≡ record { lines = ls; queue = queue; number = p }

  -- ---- as a source of lists

  abbrev pub receipt_frame : Receipts A → Asked
  receipt_frame s = record { lines = s.lines; queue = Some s.queue }

  abbrev pub receipt_right : Receipts A → ℕ → ℕ → List Command
  receipt_right s k n = listed s.lines k n

  abbrev pub ReceiptAgrees : Receipts A → Type 0
  ReceiptAgrees s = TakenAgrees s.lines s.taken

  abbrev pub ReceiptLacks : Receipts A → ℕ → ℕ → Type 0
  ReceiptLacks s k n = LacksBy (at_port s.recorders (port_of k)).result k n

  -- for the same lines, with more lists taken: where those are what they are taken for, so were the earlier ones
  pub record IsMore (old new : Receipts A) : Type 0 where
    pub frame : receipt_frame new ≡ receipt_frame old
    pub agrees : ReceiptAgrees new → ReceiptAgrees old

  -- ---- at the end

  -- what the four recorders hand over
  pub record AreResults (ls : List Line) (queue : TableId) (results : Returned A) : Type 0 where
    pub back : AreAll queue (in_order results.passes)
    pub sent : SentAgrees ls (in_order results.passes)
    pub ends : AreEnds ls results.ends

  -- each pass is back, at its number, and the drain
  abbrev pub AreBack : TableId → Returned A → Type 0
  AreBack queue r = AreAll queue (in_order r.passes) × (r.drain.queue ≡ queue)
