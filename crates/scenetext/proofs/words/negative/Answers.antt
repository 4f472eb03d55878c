use Rattle.std.proofs.Common.{ap, ◌∙◌, ◌∷◌, arith}
use Rattle.std.specs.Prelude.{decimal}
use Rattle.scenetext.proofs.WordLemmas.{no_minus_zero, negated, negative_none}
use Rattle.scenetext.proofs.words.negative.Goals as goal

pub returns-then-number-eq0-clause-none : goal.returns-then-number-eq0-clause-none
returns-then-number-eq0-clause-none c = λ z f e. no_minus_zero z f (e ∙ ap (λ n. 45 ∷ decimal n) c.if-number-eq0.true)

pub returns-clause-none : goal.returns-clause-none
returns-clause-none c =
    let e = negated c.args.number c.from.result (omega arith) c.from.ensures in
    rw c.ok.ensures.value (negative_none c.args.number _ c.try_from.result (omega arith) e c.try_from.ensures)
