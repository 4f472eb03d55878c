-- Where finished lists go: by a port, or they are kept.
use Rattle.std.specs.Prelude.{ℕ, List, map, ◌++◌, Option, Some}
use Rattle.atomic_table.specs.Seated.{TableId}
use Rattle.gfxspec.specs.Commands.{Command}
use Rattle.port.specs.declared.submission.Submission.{Submission}
use Rattle.recorders.specs.declared.ports.Recorded.{Recorded}

pub record Way : Type 0 where
  pub queue : TableId
  pub port : ℕ

pub record Sender : Type 0 where
  pub queue : TableId
  pub port : ℕ
  pub sent : List (Recorded (List Command))
  pub kept : List (Recorded (List Command))

abbrev pub lists_sent : List (Submission (Recorded (List Command))) → List (Recorded (List Command))
lists_sent sent = map (λ s. s.list) sent

abbrev pub sender_lists : Sender → List (Recorded (List Command))
sender_lists s = s.sent ++ s.kept

abbrev pub sender_way : Sender → Option Way
sender_way s = Some (record { queue = s.queue; port = s.port })
