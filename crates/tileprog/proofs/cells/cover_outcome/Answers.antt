use Rattle.std.proofs.Common.{◌≡◌, subst, arith, rules, refl, ℕ, ◌+◌, ◌≤◌, Bool, true, false}
use Rattle.std.specs.Prelude.{IfSome}
use Rattle.gfxspec.specs.Raster.{centre}
use Rattle.gfxspec.specs.Tiles.{IsIn}
use Rattle.tileprog.specs.Cells.{AreCovered, EdgesAre, InRows}
use Rattle.tileprog.specs.Edges.{passes_edges}
use Rattle.tileprog.proofs.CellLaws.{all_pass, none_pass, mapped}
use Rattle.tileprog.proofs.cells.cover_outcome.Goals as goal

pub returns : goal.returns
returns c =
    let k = c.args.column.now in
    let r = c.args.rect in
    let t = k.plane.now.triangle in
    let row = c.args.row in
    let e = c.cell_rect.ensures in
    let cell = c.cell_rect.result in
    let col = c.requires.column in
    let long = c.requires.long in
    let less = c.requires.row in
    let low : r.left ≤ k.x = search rules in
    let bottom : r.top + row + 8 ≤ r.bottom = search rules in
    let within : (u v : ℕ) → InRows r k.x row (row + 8) u v → IsIn cell u v = λ u v here.
    let a = here.left in let b = here.right in let d = here.top in let f = here.bottom in
    record { left = omega (arith, a, e.left); right = omega (arith, b, e.right); top = omega (arith, d, e.top); bottom = omega (arith, f, e.bottom) } in
    let inside : (u v : ℕ) → InRows r k.x row (row + 8) u v → IsIn r u v = λ u v here.
    let a = here.left in let b = here.right in let d = here.top in let f = here.bottom in let g = long.right in
    record { left = omega (arith, a, low); right = omega (arith, b, g); top = omega (arith, d); bottom = omega (arith, f, bottom) } in
    let by : (all : Bool) → EdgesAre all t cell → AreCovered all k.mask t r k.x row (row + 8) = λ all. elim all as (λ a. EdgesAre a t cell → AreCovered a k.mask t r k.x row (row + 8)) [
      | true ↦ λ h u v here. all_pass k.mask t (centre u v) (λ i l. h i l u v (within u v here))
      | false ↦ λ h u v here. none_pass (passes_edges k.mask t (centre u v)) k.mask t (centre u v) (c.requires.column.named.covered u v (inside u v here)) (h u v (within u v here)) refl
    ] in
    let set_is : c.in-Some.set.now ≡ t = search rules in
    mapped c.edges_outcome.result (λ all. EdgesAre all t cell) (λ all. AreCovered all k.mask t r k.x row (row + 8)) by
    (subst (λ q. IfSome c.edges_outcome.result (λ all. EdgesAre all q cell)) set_is c.edges_outcome.ensures)
