use Rattle.std.proofs.Common.{sym, subst, true, []}
use Rattle.immediate.specs.Held.{Executed, Ran}
use Rattle.sessions.specs.declared.run.Running.{Running}
use Rattle.sessions.specs.Taking.{RanBy, run_rows, HasRun}
use Rattle.sessions.proofs.Ran.{run_is, ran_executed, enqueue_is, settle_is, list_taken}
use Rattle.sessions.proofs.play.fn.play_alone.play.Goals as goal

pub returns-in-Settle : goal.returns-in-Settle
returns-in-Settle g c =
    let s = c.args.lists.now in
    let old = c.args.context.now in
    let new = c.settle_alone.new.self in
    subst (λ (r : Running). HasRun (RanBy (Ran [] true) (g.S.ListSource.agrees s) (g.S.ListSource.right s) r old new) (run_rows r old) c.settle_alone.result) (sym c.in-Settle.is)
    (settle_is old new c.settle_alone.result c.settle_alone.ensures.ok c.settle_alone.ensures.memory)

pub returns-in-Flush : goal.returns-in-Flush
returns-in-Flush g c =
    let s = c.args.lists.now in
    let old = c.args.context.now in
    let new = c.flush_alone.new.self in
    subst (λ (r : Running). HasRun (RanBy (Ran [] true) (g.S.ListSource.agrees s) (g.S.ListSource.right s) r old new) (run_rows r old) c.flush_alone.result) (sym c.in-Flush.is)
    (run_is [] true (Ran [] true old new) old new c.flush_alone.result c.flush_alone.ensures (λ ran. ran))

pub returns-in-FlushLine : goal.returns-in-FlushLine
returns-in-FlushLine g c =
    let s = c.args.lists.now in
    let old = c.args.context.now in
    let new = c.flush_alone-in-FlushLine.new.self in
    subst (λ (r : Running). HasRun (RanBy (Ran [] true) (g.S.ListSource.agrees s) (g.S.ListSource.right s) r old new) (run_rows r old) c.flush_alone-in-FlushLine.result) (sym c.in-FlushLine.is)
    (run_is [] true (Ran [] true old new) old new c.flush_alone-in-FlushLine.result c.flush_alone-in-FlushLine.ensures (λ ran. ran))

pub returns-in-Execute : goal.returns-in-Execute
returns-in-Execute g c =
    let s = c.args.lists.now in
    let old = c.args.context.now in
    let new = c.enqueue_execution_alone.new.self in
    let list = c.finished_list in
    subst (λ (r : Running). HasRun (RanBy (Ran [] true) (g.S.ListSource.agrees s) (g.S.ListSource.right s) r old new) (run_rows r old) c.enqueue_execution_alone.result) (sym c.in-Execute.is)
    (enqueue_is list.result.now c.in-Execute.restore _ old new c.enqueue_execution_alone.result c.enqueue_execution_alone.ensures
    (λ ran agrees. list_taken list.result.now _ c.in-Execute.restore old new (list.ensures.right agrees) list.ensures.none_open list.ensures.accepted ran))
