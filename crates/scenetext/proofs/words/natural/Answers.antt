use Rattle.std.proofs.Common.{◌≡◌, ◌≢◌, ◌<◌, ◌^◌, ℕ, Option, ◌∙◌, ap, sym, subst, take, IfSome, IfNone}
use Rattle.std.specs.Prelude.{decimal}
use Rattle.scenetext.proofs.WordLemmas.{natural_spelled, natural_none, not_ended, not_spelled, ended}
use Rattle.scenetext.proofs.words.natural.Goals as goal

pub returns-then-not-ends_word-clause-none : goal.returns-then-not-ends_word-clause-none
returns-then-not-ends_word-clause-none c =
    let at = c.ends_word.ensures.no c.if-not-ends_word.true in
    not_ended c.args.line.now _ _ c.leading_digits-count.ensures at.0 at.1

pub returns-then-not-may_be_decimal-clause-none : goal.returns-then-not-may_be_decimal-clause-none
returns-then-not-may_be_decimal-clause-none c =
    not_spelled c.args.line.now _ _ c.leading_digits-count.ensures (c.may_be_decimal.ensures.no c.if-not-may_be_decimal.true)

pub returns-in_err-number-clause-none : goal.returns-in_err-number-clause-none
returns-in_err-number-clause-none c =
    let digits = c.leading_digits-count.ensures in
    let none = natural_none (take c.leading_digits-count.result.0 c.args.line.now) _ c.try_from.result digits.value_is c.try_from.ensures in
    rw c.from_residual.ensures (not_spelled c.args.line.now _ _ digits (subst (λ (o : Option ℕ). IfNone o ((n : ℕ) → n < 2 ^ 32 → take c.leading_digits-count.result.0 c.args.line.now ≢ decimal n)) (sym c.ok.ensures.value ∙ c.in_err-number.was) none))

pub returns-clause-spelled : goal.returns-clause-spelled
returns-clause-spelled c =
    let digits = c.leading_digits-count.ensures in
    let shape = c.may_be_decimal.ensures.yes c.if-not-may_be_decimal.false in
    let is = ended c.args.line.now _ _ digits (c.ends_word.ensures.yes c.if-not-ends_word.false) in
    let some = natural_spelled (take c.leading_digits-count.result.0 c.args.line.now) _ c.try_from.result shape.0 shape.2 digits.digits digits.value_is c.try_from.ensures in
    (ap (λ n. take n c.args.line.now) is ∙ subst (λ (o : Option ℕ). IfSome o (λ n. take c.leading_digits-count.result.0 c.args.line.now ≡ decimal n)) (sym c.ok.ensures.value ∙ c.in_ok-number.was) some, is)
