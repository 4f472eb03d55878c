use Rattle.std.proofs.Common.{◌≡◌, ◌∙◌, arith, true, false, get_or}
use Rattle.std.specs.Prelude.{◌==◌}
use Rattle.std.proofs.lemmas.Bool.Decides.{nat_tests}
use Rattle.answers.proofs.Cutting.{next_end}
use Rattle.answers.proofs.text.lines_end.Goals as goal
use Rattle.answers.proofs.text.lines_end.Goals.{then-text-at-eq10, else-text-at-eq10}

pub loop-at-preserved : goal.loop-at-preserved
loop-at-preserved c = elim c.if-text-at-eq10.branch [
  | then-text-at-eq10 w ↦
      let is = w.if-text-at-eq10.true in
      let test : (get_or c.args.text.now c.loop-at.at 0 == 10) ≡ true = grind (arith, nat_tests) in
      c.loop-at.invariant ∙ next_end c.args.text.now c.loop-at.at c.loop-at.left c.if-text-at-eq10.left true c.loop-at-test.true c.if-left-eq0.false test w.left-is
  | else-text-at-eq10 w ↦
      let other = w.if-text-at-eq10.false in
      let test : (get_or c.args.text.now c.loop-at.at 0 == 10) ≡ false = grind (arith, nat_tests) in
      c.loop-at.invariant ∙ next_end c.args.text.now c.loop-at.at c.loop-at.left c.if-text-at-eq10.left false c.loop-at-test.true c.if-left-eq0.false test w.left-is
]
