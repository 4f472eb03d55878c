use Rattle.std.proofs.Common.{sym, subst, true, []}
use Rattle.std.specs.Prelude.{OnOk}
use Rattle.immediate.specs.Held.{Executed, Ran}
use Rattle.sessions.specs.declared.run.Running.{Running}
use Rattle.sessions.specs.Taking.{RanBy, run_rows, HasRun, TracesRun}
use Rattle.sessions.specs.Histories.{traces_beside}
use Rattle.sessions.proofs.Ran.{run_is, enqueue_is, list_taken, traces_listed}
use Rattle.sessions.proofs.traced.TracedContext.run.Goals as goal

pub returns-in-Settle-clause-ran : goal.returns-in-Settle-clause-ran
returns-in-Settle-clause-ran g c =
    let s = c.args.lists.now in
    let old = c.args.self.now.context in
    subst (λ (r : Running). HasRun (RanBy (Executed [] true) (g.S.ListSource.agrees s) (g.S.ListSource.right s) r old c.settle.new.self.context) (run_rows r old) c.settle.result) (sym c.in-Settle.is) c.settle.ensures.ran

pub returns-in-Settle-clause-traced : goal.returns-in-Settle-clause-traced
returns-in-Settle-clause-traced g c =
    let s = c.args.lists.now in
    let old = c.args.self.now in
    subst (λ (r : Running). OnOk c.settle.result (TracesRun traces_beside (g.S.ListSource.agrees s) (g.S.ListSource.right s) r old.context old c.settle.new.self)) (sym c.in-Settle.is) c.settle.ensures.traced

pub returns-in-Flush-clause-ran : goal.returns-in-Flush-clause-ran
returns-in-Flush-clause-ran g c =
    let s = c.args.lists.now in
    let old = c.args.self.now.context in
    let new = c.flush.new.self.context in
    subst (λ (r : Running). HasRun (RanBy (Executed [] true) (g.S.ListSource.agrees s) (g.S.ListSource.right s) r old new) (run_rows r old) c.flush.result) (sym c.in-Flush.is)
    (run_is [] true (Ran [] true old new) old new c.flush.result c.flush.ensures.ran (λ ran. ran))

pub returns-in-Flush-clause-traced : goal.returns-in-Flush-clause-traced
returns-in-Flush-clause-traced g c =
    let s = c.args.lists.now in
    let old = c.args.self.now in
    subst (λ (r : Running). OnOk c.flush.result (TracesRun traces_beside (g.S.ListSource.agrees s) (g.S.ListSource.right s) r old.context old c.flush.new.self)) (sym c.in-Flush.is) c.flush.ensures.traced

pub returns-in-FlushLine-clause-ran : goal.returns-in-FlushLine-clause-ran
returns-in-FlushLine-clause-ran g c =
    let s = c.args.lists.now in
    let old = c.args.self.now.context in
    let new = c.wait.new.self.context in
    subst (λ (r : Running). HasRun (RanBy (Executed [] true) (g.S.ListSource.agrees s) (g.S.ListSource.right s) r old new) (run_rows r old) c.wait.result) (sym c.in-FlushLine.is)
    (enqueue_is [] true (Executed [] true old new) old new c.wait.result c.wait.ensures.ran (λ ran. ran))

pub returns-in-FlushLine-clause-traced : goal.returns-in-FlushLine-clause-traced
returns-in-FlushLine-clause-traced g c =
    let s = c.args.lists.now in
    let old = c.args.self.now in
    subst (λ (r : Running). OnOk c.wait.result (TracesRun traces_beside (g.S.ListSource.agrees s) (g.S.ListSource.right s) r old.context old c.wait.new.self)) (sym c.in-FlushLine.is) c.wait.ensures.traced

pub returns-in-Execute-clause-ran : goal.returns-in-Execute-clause-ran
returns-in-Execute-clause-ran g c =
    let s = c.args.lists.now in
    let old = c.args.self.now.context in
    let new = c.execute.new.self.context in
    let list = c.finished_list in
    subst (λ (r : Running). HasRun (RanBy (Executed [] true) (g.S.ListSource.agrees s) (g.S.ListSource.right s) r old new) (run_rows r old) c.execute.result) (sym c.in-Execute.is)
    (enqueue_is list.result.now c.in-Execute.restore _ old new c.execute.result c.execute.ensures.ran
    (λ ran agrees. list_taken list.result.now _ c.in-Execute.restore old new (list.ensures.right agrees) list.ensures.none_open list.ensures.accepted ran))

pub returns-in-Execute-clause-traced : goal.returns-in-Execute-clause-traced
returns-in-Execute-clause-traced g c =
    let s = c.args.lists.now in
    let old = c.args.self.now in
    let list = c.finished_list in
    subst (λ (r : Running). OnOk c.execute.result (TracesRun traces_beside (g.S.ListSource.agrees s) (g.S.ListSource.right s) r old.context old c.execute.new.self)) (sym c.in-Execute.is)
    (traces_listed traces_beside (g.S.ListSource.agrees s) old.context list.result.now (g.S.ListSource.right s c.in-Execute.of c.in-Execute.number) c.in-Execute.restore old c.execute.new.self c.execute.result list.ensures.right c.execute.ensures.traced)
