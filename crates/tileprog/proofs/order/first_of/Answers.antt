use Rattle.std.proofs.Common.{◌≡◌, ◌∙◌, ◌+◌, ◌++◌, ◌∷◌, [], suc, ℕ, List, ap, sym, take, arith, get_or}
use mathlib.Core.Option.{some}
use Rattle.tilerun.proofs.Lists.{take_next, there, read_at}
use Rattle.tileprog.proofs.order.first_of.Goals as goal

pub loop-issue-preserved : goal.loop-issue-preserved
loop-issue-preserved c = let i = c.loop-issue.issue in let e : suc i ≡ i + 1 = omega arith in let ts = c.args.totals.now in
    let at = there ts i (omega arith) in
    c.push.ensures.items ∙ ap (λ (xs : List ℕ). xs ++ get_or ts i 0 ∷ []) c.loop-issue.invariant
    ∙ sym (take_next ts i (get_or ts i 0) (at.1 ∙ ap some (sym (read_at ts i at.0 0 at.1)))) ∙ ap (λ (n : ℕ). take n ts) e
