use Rattle.std.proofs.Common.{◌≡◌, ◌∙◌, ap, subst, refl, ℕ, ◌+◌, ◌<◌, Bool, cond, w32, to_z}
use Rattle.std.specs.Prelude.{int_le, slice_index}
use Rattle.gfxspec.specs.Raster.{centre, covers, edge}
use Rattle.snap.specs.Corners.{triangle_of}
use Rattle.edges.specs.Walk.{EdgePlace, IsNearBegin}
use Rattle.edges.proofs.WalkLaws.{any_below, any_tells, long_any, four, ones, ones_of, lane_tells, first_not_flat, second_not_flat, third_not_flat, all_cover}
use Rattle.edges.proofs.quads.EdgeQuads.covered.Goals as goal

abbrev at_least : ℕ → ℕ → Bool
at_least a b = int_le (to_z w32 a) (to_z w32 b)

pub returns : goal.returns
returns c =
    let w = c.self.inside in
    let at = c.self.invariant in
    let t = triangle_of w.triangle.now in
    let any = any_below w.first.lanes w.second.lanes w.third.lanes in
    let long = long_any 4 w.first.lanes w.second.lanes w.third.lanes at.first.long at.second.long at.third.long in
    let P : EdgePlace → Type 0 = λ p. (j : ℕ) → j < 4 → IsNearBegin p j → slice_index (ones at_least (four 0) any refl long) j ≡ cond (covers p.triangle (centre (p.x + j) p.y)) 1 0 in
    subst P c.self.view_is (λ j h near.
    ones_of at_least (four 0) any refl long 0 j h refl
    ∙ ap (λ b. cond b 1 0)
    (any_tells 4 w.first.lanes w.second.lanes w.third.lanes at.first.long at.second.long at.third.long j _ _ _ h
    (lane_tells 4 w.first.lanes w.first.across w.first.below (edge t 0) w.left w.top w.x w.y at.first (first_not_flat t at.real) at.left at.top j h near.column near.row)
    (lane_tells 4 w.second.lanes w.second.across w.second.below (edge t 1) w.left w.top w.x w.y at.second (second_not_flat t at.real) at.left at.top j h near.column near.row)
    (lane_tells 4 w.third.lanes w.third.across w.third.below (edge t 2) w.left w.top w.x w.y at.third (third_not_flat t at.real) at.left at.top j h near.column near.row)
    ∙ all_cover t at.real (w.x + j) w.y))
