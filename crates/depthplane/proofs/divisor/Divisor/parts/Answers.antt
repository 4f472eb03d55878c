use Rattle.std.proofs.Common.{arith, sym, subst, ℕ, ◌+◌, ◌*◌, ◌<◌, ◌≤◌}
use Rattle.depthplane.proofs.DivisorLaws.{guess_low, guess_high, exact_parts, next_parts, some_divisor}
use Rattle.depthplane.proofs.divisor.Divisor.parts.Goals as goal

pub overflow_sub-left : goal.overflow_sub-left
overflow_sub-left c =
    let d = c.args.self.number in
    let P : ℕ → Type 0 = λ g. g * d ≤ c.args.number in
    subst P (sym c.scaled_down-guess.ensures) (guess_low c.args.number d c.args.self.inverse (some_divisor d c.args.self.is_divisor) c.ranges.number.fits c.args.self.inverse_is)

pub returns-then-left-self-clause-quotient : goal.returns-then-left-self-clause-quotient
returns-then-left-self-clause-quotient c =
    let d = c.args.self.number in
    let less = c.if-left-self.true in
    let P : ℕ → Type 0 = λ g. g * d ≤ c.args.number in
    let low = subst P (sym c.scaled_down-guess.ensures) (guess_low c.args.number d c.args.self.inverse (some_divisor d c.args.self.is_divisor) c.ranges.number.fits c.args.self.inverse_is) in
    (exact_parts c.args.number d c.scaled_down-guess.result low (omega (arith, less))).0

pub returns-then-left-self-clause-rest : goal.returns-then-left-self-clause-rest
returns-then-left-self-clause-rest c =
    let d = c.args.self.number in
    let less = c.if-left-self.true in
    let P : ℕ → Type 0 = λ g. g * d ≤ c.args.number in
    let low = subst P (sym c.scaled_down-guess.ensures) (guess_low c.args.number d c.args.self.inverse (some_divisor d c.args.self.is_divisor) c.ranges.number.fits c.args.self.inverse_is) in
    (exact_parts c.args.number d c.scaled_down-guess.result low (omega (arith, less))).1

pub returns-else-left-self-clause-quotient : goal.returns-else-left-self-clause-quotient
returns-else-left-self-clause-quotient c =
    let d = c.args.self.number in
    let more = c.if-left-self.false in
    let some = some_divisor d c.args.self.is_divisor in
    let P : ℕ → Type 0 = λ g. g * d ≤ c.args.number in
    let Q : ℕ → Type 0 = λ g. c.args.number < g * d + d + d in
    let low = subst P (sym c.scaled_down-guess.ensures) (guess_low c.args.number d c.args.self.inverse some c.ranges.number.fits c.args.self.inverse_is) in
    let high = subst Q (sym c.scaled_down-guess.ensures) (guess_high c.args.number d c.args.self.inverse some c.ranges.number.fits c.args.self.inverse_is) in
    (next_parts c.args.number d c.scaled_down-guess.result low (omega (arith, more)) high).0

pub returns-else-left-self-clause-rest : goal.returns-else-left-self-clause-rest
returns-else-left-self-clause-rest c =
    let d = c.args.self.number in
    let more = c.if-left-self.false in
    let some = some_divisor d c.args.self.is_divisor in
    let P : ℕ → Type 0 = λ g. g * d ≤ c.args.number in
    let Q : ℕ → Type 0 = λ g. c.args.number < g * d + d + d in
    let low = subst P (sym c.scaled_down-guess.ensures) (guess_low c.args.number d c.args.self.inverse some c.ranges.number.fits c.args.self.inverse_is) in
    let high = subst Q (sym c.scaled_down-guess.ensures) (guess_high c.args.number d c.args.self.inverse some c.ranges.number.fits c.args.self.inverse_is) in
    (next_parts c.args.number d c.scaled_down-guess.result low (omega (arith, more)) high).1
