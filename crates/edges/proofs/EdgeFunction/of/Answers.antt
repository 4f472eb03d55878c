use Rattle.std.proofs.Common.{rules, arith, w64, ◌-ℤ◌, FitsSigned}
use Rattle.std.proofs.lemmas.Int.{ints, to_z-of_z}
use Rattle.edges.specs.Function.{IsSmall}
use Rattle.edges.proofs.FunctionLaws.{function_of}
use Rattle.edges.proofs.EdgeFunction.of.Goals as goal

pub overflow_sub-result : goal.overflow_sub-result
overflow_sub-result c =
    let f : FitsSigned w64 c.args.side.origin = search rules in
    let g : FitsSigned w64 c.bias_of.result = search rules in
    let p = c.requires.origin in
    let q = c.bias_of.ensures.bound in
    simp to_z-of_z (omega (arith, ints, p, q))

pub returns-clause-small : goal.returns-clause-small
returns-clause-small c =
    let f1 : FitsSigned w64 c.args.side.origin = search rules in
    let f2 : FitsSigned w64 c.args.side.step_x = search rules in
    let f3 : FitsSigned w64 c.args.side.step_y = search rules in
    let f4 : FitsSigned w64 c.bias_of.result = search rules in
    let p = c.requires.origin in
    let q = c.bias_of.ensures.bound in
    let f5 : FitsSigned w64 (c.args.side.origin -ℤ c.bias_of.result) = omega (arith, ints, p, q) in
    let small : IsSmall (record { origin = c.args.side.origin -ℤ c.bias_of.result; step_x = c.args.side.step_x; step_y = c.args.side.step_y }) =
    record { origin = omega (arith, ints, p, q); step_x = c.requires.step_x; step_y = c.requires.step_y } in
    simp to_z-of_z small

pub returns-clause-function : goal.returns-clause-function
returns-clause-function c = λ e area real is side.
    let f1 : FitsSigned w64 c.args.side.origin = search rules in
    let f2 : FitsSigned w64 c.args.side.step_x = search rules in
    let f3 : FitsSigned w64 c.args.side.step_y = search rules in
    let f4 : FitsSigned w64 c.bias_of.result = search rules in
    let p = c.requires.origin in
    let q = c.bias_of.ensures.bound in
    let f5 : FitsSigned w64 (c.args.side.origin -ℤ c.bias_of.result) = omega (arith, ints, p, q) in
    let b = simp to_z-of_z at c.bias_of.ensures.value in
    simp to_z-of_z (function_of e c.args.side area c.bias_of.result real is side b
    (record { origin = omega (arith, ints, p, q); step_x = c.requires.step_x; step_y = c.requires.step_y }))
