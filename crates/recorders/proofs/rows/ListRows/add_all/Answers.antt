use Rattle.std.proofs.Common.{sym}
use Rattle.std.proofs.lemmas.List.Elements.{All-same, All-head, All-rest}
use Rattle.recorders.specs.Apart.{IsListed}
use Rattle.recorders.proofs.RowLemmas.{added}
use Rattle.recorders.proofs.rows.ListRows.add_all.Goals as goal

pub loop-recorded-init : goal.loop-recorded-init
loop-recorded-init g c ls listed rows =
    (rows, All-same (IsListed ls) _ _ c.into_iter-recorded-iterator.ensures.into_iter_gives.0 listed)

pub loop-recorded-preserved : goal.loop-recorded-preserved
loop-recorded-preserved g c ls listed rows =
    let held = c.loop-recorded.invariant ls listed rows in
    let steps = c.in-Some.ensures.steps.0 in
    let all = All-same (IsListed ls) _ _ (sym steps) held.1 in (
      added ls c.loop-recorded.self c.add.new.self c.in-Some.recorded c.add.result c.add.ensures.ok c.add.ensures.err (All-head (IsListed ls) c.in-Some.recorded _ all) held.0,
      All-rest (IsListed ls) c.in-Some.recorded _ _ steps held.1,
    )

pub returns : goal.returns
returns g c ls listed rows = (c.loop-recorded.invariant ls listed rows).0
