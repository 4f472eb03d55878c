use Rattle.std.proofs.Common.{rules, pos, ◌≡◌, ◌≢◌, subst, sym}
use Rattle.gfxspec.specs.Raster.{Edge, edge}
use Rattle.snap.specs.Corners.{triangle_of}
use Rattle.edges.specs.declared.EdgeFunction.{EdgeFunction}
use Rattle.edges.specs.declared.PackedFunction.{PackedFunction}
use Rattle.edges.specs.Function.{IsFunctionOf, unpacked}
use Rattle.edges.proofs.FunctionLaws.{each_edge, whole_first, whole_second}
use Rattle.edges.proofs.EdgeSet.of_sides.Goals as goal

packed : (e : Edge) (f : EdgeFunction) (p : PackedFunction) → ((e : Edge) → IsFunctionOf f e → unpacked p ≡ f) → IsFunctionOf f e → IsFunctionOf (unpacked p) e
packed e f p same is = subst (λ f. IsFunctionOf f e) (sym (same e is)) is

pub invariant_of-result : goal.invariant_of-result
invariant_of-result c =
    let s = c.args.sides.now in
    let t = triangle_of s.triangle in
    let real : s.area ≢ pos 0 = search rules in
    each_edge (λ (p : PackedFunction) e. IsFunctionOf (unpacked p) e) t c.of-2.result c.of-4.result c.of-6.result (record { origin = pos 0; step_x = pos 0; step_y = pos 0 })
    (packed (edge t 0) _ c.of-2.result c.of-2.ensures (c.of.ensures.function (edge t 0) s.area real (whole_first t s.area s.area_is) s.first_is))
    (packed (edge t 1) _ c.of-4.result c.of-4.ensures (c.of-3.ensures.function (edge t 1) s.area real (whole_second t s.area s.area_is) s.second_is))
    (packed (edge t 2) _ c.of-6.result c.of-6.ensures (c.of-5.ensures.function (edge t 2) s.area real s.area_is s.third_is))

pub of-requires-2 : goal.of-requires-2
of-requires-2 c = c.of.ensures.small

pub of-requires-4 : goal.of-requires-4
of-requires-4 c = c.of-3.ensures.small

pub of-requires-6 : goal.of-requires-6
of-requires-6 c = c.of-5.ensures.small

pub returns-then-sides-eq0-clause-none : goal.returns-then-sides-eq0-clause-none
returns-then-sides-eq0-clause-none c = search rules

pub returns-then-sides-eq0-clause-set : goal.returns-then-sides-eq0-clause-set
returns-then-sides-eq0-clause-set c = search rules

pub returns-clause-none : goal.returns-clause-none
returns-clause-none c = search rules

pub returns-clause-set : goal.returns-clause-set
returns-clause-set c = search rules
