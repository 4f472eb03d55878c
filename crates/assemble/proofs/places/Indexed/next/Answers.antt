use Rattle.std.proofs.Common.{rules, refl, ◌∙◌, sym, arith, w32, FitsSigned}
use Rattle.std.proofs.lemmas.Int.{to_z-of_z}
use Rattle.std.proofs.lemmas.List.{take_rest}
use Rattle.assemble.specs.Order.{topology_of}
use Rattle.assemble.specs.Used.{AreUsedWell}
use Rattle.assemble.proofs.CutLaws.{used_further}
use Rattle.assemble.proofs.TurnLaws.{indexed_short, next_is, names, same_topology}
use Rattle.assemble.proofs.places.Indexed.next.Goals as goal

pub returns-in_default : goal.returns-in_default
returns-in_default c =
    let s = c.self.inside in
    let p = c.past_cuts-order in
    let none = sym c.self.view_is ∙ sym (p.ensures.triangles s.vertices.now s.base) ∙ indexed_short s.vertices.now s.base p.result.0 p.result.1.now c.in_default.len_below in
    (none, none)

pub vertex_of-requires-2 : goal.vertex_of-requires-2
vertex_of-requires-2 c =
    let s = c.self.inside in
    let p = c.past_cuts-order in
    let f : FitsSigned w32 s.base = search rules in
    let u : AreUsedWell (topology_of p.result.0) s.vertices.now s.base p.result.1.now = rw p.ensures.topology (p.ensures.used s.vertices.now s.base c.self.invariant) in
    simp to_z-of_z (names s.vertices.now s.base p.result.0 p.result.1.now 1 (omega arith) c.in-len3-up.len_at_least p.ensures.ready u)

pub vertex_of-requires-3 : goal.vertex_of-requires-3
vertex_of-requires-3 c =
    let s = c.self.inside in
    let p = c.past_cuts-order in
    let f : FitsSigned w32 s.base = search rules in
    let u : AreUsedWell (topology_of p.result.0) s.vertices.now s.base p.result.1.now = rw p.ensures.topology (p.ensures.used s.vertices.now s.base c.self.invariant) in
    simp to_z-of_z (names s.vertices.now s.base p.result.0 p.result.1.now 2 (omega arith) c.in-len3-up.len_at_least p.ensures.ready u)

pub invariant_of-self : goal.invariant_of-self
invariant_of-self c =
    let s = c.self.inside in
    let p = c.past_cuts-order in
    rw (c.following-self-inside.ensures, same_topology p.result.0, p.ensures.topology, take_rest p.result.1.now c.step.result)
    (used_further (topology_of s.order) s.vertices.now s.base c.step.result p.result.1.now (p.ensures.used s.vertices.now s.base c.self.invariant))

pub returns : goal.returns
returns c =
    let s = c.self.inside in
    let p = c.past_cuts-order in
    let f : FitsSigned w32 s.base = search rules in
    let v0 = simp to_z-of_z at c.vertex_of.ensures in
    let v1 = simp to_z-of_z at c.vertex_of-2.ensures in
    let v2 = simp to_z-of_z at c.vertex_of-3.ensures in
    sym c.self.view_is
    ∙ sym (p.ensures.triangles s.vertices.now s.base)
    ∙ next_is s.vertices.now s.base p.result.0 p.result.1.now c.in-len3-up.len_at_least p.ensures.ready
    ∙ rw (take_rest p.result.1.now c.step.result, c.following-self-inside.ensures, c.step.ensures, c.arranged-tri.ensures, v0, v1, v2) refl

pub past_cuts-order-requires : goal.past_cuts-order-requires
past_cuts-order-requires c = search rules

pub bounds-indices-0 : goal.bounds-indices-0
bounds-indices-0 c = search rules

pub bounds-indices-1 : goal.bounds-indices-1
bounds-indices-1 c = search rules

pub bounds-indices-2 : goal.bounds-indices-2
bounds-indices-2 c = search rules

pub arranged-tri-requires : goal.arranged-tri-requires
arranged-tri-requires c = search rules

pub step-requires : goal.step-requires
step-requires c = search rules

pub offset_bounds-indices-step : goal.offset_bounds-indices-step
offset_bounds-indices-step c = search rules

pub slice_bounds-self-count : goal.slice_bounds-self-count
slice_bounds-self-count c = search rules

pub slice_bounds-self-start : goal.slice_bounds-self-start
slice_bounds-self-start c = search rules

pub slice_bounds-self-end : goal.slice_bounds-self-end
slice_bounds-self-end c = search rules

pub following-self-inside-requires : goal.following-self-inside-requires
following-self-inside-requires c = search rules
