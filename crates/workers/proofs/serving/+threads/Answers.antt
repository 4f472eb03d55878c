use Rattle.std.proofs.Common.{rules, arith}
use denote.Ref.{NamedLft}
use denote.Param.{param}
use denote.Param.Send.{IsSend, sendable}
use Rattle.workers.specs.contracts.serving.ThreadSetup as ThreadSetup
use Rattle.workers.proofs.Crossing.{setup_send}
use Rattle.workers.proofs.serving.+threads.Goals as goal

pub fn::start::spawn+FnOnce::call_once-spawn-requires : goal.fn::start::spawn+FnOnce::call_once-spawn-requires
fn::start::spawn+FnOnce::call_once-spawn-requires g t c κs within =
    let w = within in
    let own = c.requires.1.1.1.1.1.1.1.1.1.1 in
    let m = own.0 in
    (search (rules, arith), (w.0, (w.1.0, (w.1.1.0, (w.1.1.1.0, (w.1.1.1.1.0, (w.1.1.1.1.1.0, (w.1.1.1.1.1.1.0, (w.1.1.1.1.1.1.1.0, (w.1.1.1.1.1.1.1.1.0, (w.1.1.1.1.1.1.1.1.1, (m.send_first, (m.send_second, (m.send_memory, (m.send_open, (m.send_done, (m.send_second_open, (m.send_second_done, (m.sync_first, (m.sync_second, (m.sync_memory, (m.sync_gate, (m.sync_runtime, (m.frees, (m, own.1.0)))))))))))))))))))))))))

pub start-spawn-requires-send-F : goal.start-spawn-requires-send-F
start-spawn-requires-send-F g t c κs within =
    let sent : (s l : NamedLft) → IsSend (ThreadSetup.the_row s l (param 0 g.row.E) (param 1 g.row.J) (param 2 g.row.K) (param 3 g.row.A) (param 5 g.row.R) (param 4 g.row.G) (param 6 g.row.J-Open) (param 7 g.row.J-Done) (param 8 g.row.K-Open) (param 9 g.row.K-Done) g.J.TileJob g.K.TileJob g.A.Allocator) =
    λ s l. setup_send s l (param 0 g.row.E) (param 1 g.row.J) (param 2 g.row.K) (param 3 g.row.A) (param 5 g.row.R) (param 4 g.row.G) (param 6 g.row.J-Open) (param 7 g.row.J-Done) (param 8 g.row.K-Open) (param 9 g.row.K-Done) g.J.TileJob g.K.TileJob g.A.Allocator c.requires.cross in
    search (sendable, sent) depth 20
