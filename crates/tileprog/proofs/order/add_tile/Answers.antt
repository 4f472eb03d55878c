use Rattle.std.proofs.Common.{◌∙◌, ap, arith, ℕ, ◌+◌, ◌≢◌, get_or, length-set}
use Rattle.std.proofs.lemmas.List.{get_or-set_other}
use Rattle.lanes.proofs.Masks.{stored_next}
use Rattle.tileprog.proofs.order.add_tile.Goals as goal

pub loop-issue-preserved : goal.loop-issue-preserved
loop-issue-preserved g c =
    let inv = c.loop-issue.invariant in
    let k = c.loop-issue.issue in
    let at = λ (m : ℕ). get_or c.args.totals.now m 0 + get_or c.args.tile.now.counts m 0 in
    let here = ap (λ n. n + c.count.result) (inv.left k (omega arith)) ∙ ap (λ n. get_or c.args.totals.now k 0 + n) c.count.ensures in
    record {
      long = length-set c.loop-issue.totals k _ ∙ inv.long;
      done = stored_next at c.loop-issue.totals k _ (omega (arith, inv.long)) here inv.done;
      left = λ m h. let ne : m ≢ k = omega arith in get_or-set_other c.loop-issue.totals k m _ 0 ne ∙ inv.left m (omega arith);
    }
