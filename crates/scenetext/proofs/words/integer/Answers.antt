use Rattle.std.proofs.Common.{◌≢◌, ℤ, Option, w32, FitsSigned, ◌∙◌, sym, ap, subst, arith, IfNone}
use Rattle.std.specs.Prelude.{◌∷◌}
use Rattle.std.specs.Fmt.{signed_decimal}
use Rattle.scenetext.specs.Reading.{first_word}
use Rattle.scenetext.proofs.WordLemmas.{first_behind_minus, no_negative, natural_too_big}
use Rattle.scenetext.proofs.words.integer.Goals as goal

pub returns-in_err-number-in-Some-clause-none : goal.returns-in_err-number-in-Some-clause-none
returns-in_err-number-in-Some-clause-none c =
    let first = first_behind_minus c.args.line.now c.in-Some.digits.now c.in-Some.ensures.some in
    rw c.from_residual.ensures (no_negative (first_word c.args.line.now) (first_word c.in-Some.digits.now) first.0 c.in_err-number-in-Some.ensures.none)

pub returns-in_err-negative-in-Some-clause-none : goal.returns-in_err-negative-in-Some-clause-none
returns-in_err-negative-in-Some-clause-none c =
    let first = first_behind_minus c.args.line.now c.in-Some.digits.now c.in-Some.ensures.some in
    rw c.from_residual-in_err-negative-in-Some.ensures (λ z f e. c.in_err-negative-in-Some.ensures.none z f (sym e ∙ first.0 ∙ ap (λ w. 45 ∷ w) c.in_ok-number-in-Some.ensures.spelled.0))

pub returns-in_err-ok-in-None-clause-none : goal.returns-in_err-ok-in-None-clause-none
returns-in_err-ok-in-None-clause-none c =
    let word = first_word c.args.line.now in
    let none = natural_too_big word c.in_ok-number-in-None.number c.try_from.result (omega arith) c.in_ok-number-in-None.ensures.spelled.0 c.try_from.ensures in
    rw c.from_residual-in_err-ok-in-None.ensures (subst (λ (o : Option ℤ). IfNone o ((z : ℤ) → FitsSigned w32 z → word ≢ signed_decimal z)) (sym c.ok.ensures.value ∙ c.in_err-ok-in-None.was) none)
