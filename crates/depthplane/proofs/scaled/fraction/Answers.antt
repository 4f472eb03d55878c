use Rattle.std.proofs.Common.{rules, arith, w64, FitsSigned, ◌<◌}
use Rattle.std.specs.Prelude.{unsigned_abs}
use Rattle.std.proofs.lemmas.Int.{ints, to_z-of_z}
use Rattle.depthplane.proofs.FractionLaws.{high_small, low_small, fraction_least, fraction_most, whole_least, whole_most}
use Rattle.depthplane.proofs.scaled.fraction.Goals as goal

pub overflow_mul-result : goal.overflow_mul-result
overflow_mul-result c =
    let n = unsigned_abs c.args.rest in
    let d = c.args.divisor.number in
    let g : FitsSigned w64 c.args.rest = search rules in
    let low = c.requires.low in
    let high = c.requires.high in
    let small : n < d = omega (arith, ints, low, high) in
    let a = simp to_z-of_z at c.parts-high.ensures.quotient in
    let b = simp to_z-of_z at c.parts-high.ensures.rest in
    let h = high_small n d c.parts-high.result.0 c.parts-high.result.1 c.parts-low.result.0 c.parts-low.result.1 small a b c.parts-low.ensures.quotient c.parts-low.ensures.rest in
    record { fits = omega (arith, h) }

pub overflow_add-result-2 : goal.overflow_add-result-2
overflow_add-result-2 c =
    let n = unsigned_abs c.args.rest in
    let d = c.args.divisor.number in
    let g : FitsSigned w64 c.args.rest = search rules in
    let low = c.requires.low in
    let high = c.requires.high in
    let small : n < d = omega (arith, ints, low, high) in
    let a = simp to_z-of_z at c.parts-high.ensures.quotient in
    let b = simp to_z-of_z at c.parts-high.ensures.rest in
    let h = high_small n d c.parts-high.result.0 c.parts-high.result.1 c.parts-low.result.0 c.parts-low.result.1 small a b c.parts-low.ensures.quotient c.parts-low.ensures.rest in
    let l = low_small n d c.parts-high.result.0 c.parts-high.result.1 c.parts-low.result.0 c.parts-low.result.1 small a b c.parts-low.ensures.quotient c.parts-low.ensures.rest in
    record { fits = omega (arith, h, l) }

pub overflow_add-result-3 : goal.overflow_add-result-3
overflow_add-result-3 c =
    let n = unsigned_abs c.args.rest in
    let d = c.args.divisor.number in
    let g : FitsSigned w64 c.args.rest = search rules in
    let low = c.requires.low in
    let high = c.requires.high in
    let small : n < d = omega (arith, ints, low, high) in
    let a = simp to_z-of_z at c.parts-high.ensures.quotient in
    let b = simp to_z-of_z at c.parts-high.ensures.rest in
    let h = high_small n d c.parts-high.result.0 c.parts-high.result.1 c.parts-low.result.0 c.parts-low.result.1 small a b c.parts-low.ensures.quotient c.parts-low.ensures.rest in
    let l = low_small n d c.parts-high.result.0 c.parts-high.result.1 c.parts-low.result.0 c.parts-low.result.1 small a b c.parts-low.ensures.quotient c.parts-low.ensures.rest in
    let m = c.min-2.ensures in
    record { fits = omega (arith, h, l, m) }

pub returns-then-divisor-lt-UNIT-clause-least : goal.returns-then-divisor-lt-UNIT-clause-least
returns-then-divisor-lt-UNIT-clause-least c =
    let n = unsigned_abs c.args.rest in
    let d = c.args.divisor.number in
    let g : FitsSigned w64 c.args.rest = search rules in
    let low = c.requires.low in
    let high = c.requires.high in
    let small : n < d = omega (arith, ints, low, high) in
    let a = simp to_z-of_z at c.parts-whole.ensures.quotient in
    let b = simp to_z-of_z at c.parts-whole.ensures.rest in
    rw c.min.ensures (whole_least n d c.parts-whole.result.0 c.parts-whole.result.1 (omega (arith, small)) a b)

pub returns-then-divisor-lt-UNIT-clause-most : goal.returns-then-divisor-lt-UNIT-clause-most
returns-then-divisor-lt-UNIT-clause-most c =
    let n = unsigned_abs c.args.rest in
    let d = c.args.divisor.number in
    let g : FitsSigned w64 c.args.rest = search rules in
    let low = c.requires.low in
    let high = c.requires.high in
    let small : n < d = omega (arith, ints, low, high) in
    let a = simp to_z-of_z at c.parts-whole.ensures.quotient in
    let b = simp to_z-of_z at c.parts-whole.ensures.rest in
    rw c.min.ensures (whole_most n d c.parts-whole.result.0 c.parts-whole.result.1 (omega (arith, small)) a b)

pub returns-clause-least : goal.returns-clause-least
returns-clause-least c =
    let n = unsigned_abs c.args.rest in
    let d = c.args.divisor.number in
    let g : FitsSigned w64 c.args.rest = search rules in
    let low = c.requires.low in
    let high = c.requires.high in
    let small : n < d = omega (arith, ints, low, high) in
    let a = simp to_z-of_z at c.parts-high.ensures.quotient in
    let b = simp to_z-of_z at c.parts-high.ensures.rest in
    rw c.min-2.ensures (fraction_least n d c.parts-high.result.0 c.parts-high.result.1 c.parts-low.result.0 c.parts-low.result.1 small a b c.parts-low.ensures.quotient c.parts-low.ensures.rest)

pub returns-clause-most : goal.returns-clause-most
returns-clause-most c =
    let n = unsigned_abs c.args.rest in
    let d = c.args.divisor.number in
    let g : FitsSigned w64 c.args.rest = search rules in
    let low = c.requires.low in
    let high = c.requires.high in
    let small : n < d = omega (arith, ints, low, high) in
    let a = simp to_z-of_z at c.parts-high.ensures.quotient in
    let b = simp to_z-of_z at c.parts-high.ensures.rest in
    rw c.min-2.ensures (fraction_most n d c.parts-high.result.0 c.parts-high.result.1 c.parts-low.result.0 c.parts-low.result.1 small a b c.parts-low.ensures.quotient c.parts-low.ensures.rest)
