use Rattle.std.proofs.Common.{◌≡◌, ◌∙◌, ◌+◌, ◌++◌, ◌∷◌, [], suc, ℕ, List, ap, sym, take, arith}
use Rattle.tilerun.proofs.Lists.{take_next}
use Rattle.tilerun.proofs.running.counts_of.Goals as goal

pub loop-issue-preserved : goal.loop-issue-preserved
loop-issue-preserved g c = let i = c.loop-issue.issue in let e : suc i ≡ i + 1 = omega arith in
    c.push.ensures.items ∙ ap (λ (xs : List ℕ). xs ++ c.count.result ∷ []) c.loop-issue.invariant ∙ sym (take_next c.args.finished.now.counts i c.count.result c.count.ensures) ∙ ap (λ (n : ℕ). take n c.args.finished.now.counts) e
