use Rattle.std.proofs.Common.{◌≡◌, ◌∙◌, ap, subst, refl, ℕ, ◌+◌, ◌<◌, replicate, Bool, w32, to_z}
use Rattle.std.specs.Prelude.{◌==◌, int_le, slice_index_or}
use Rattle.std.specs.Int.{bit_at}
use Rattle.std.proofs.lemmas.List.{get_or-replicate}
use Rattle.gfxspec.specs.Raster.{centre, covers, edge}
use Rattle.snap.specs.Corners.{triangle_of}
use Rattle.edges.specs.Walk.{EdgePlace, IsNearBegin}
use Rattle.edges.proofs.WalkLaws.{any_below, any_tells, long_any, compared_fits, bit_at-compared, compared, lane_tells, first_not_flat, second_not_flat, third_not_flat, all_cover}
use Rattle.edges.proofs.walk.EdgeWalk.covered.Goals as goal

abbrev at_least : ℕ → ℕ → Bool
at_least a b = int_le (to_z w32 a) (to_z w32 b)

pub overflow_cast-result : goal.overflow_cast-result
overflow_cast-result c =
    let at = c.self.invariant in
    let w = c.self.inside in
    compared_fits at_least (replicate 8 0) (any_below w.first.lanes w.second.lanes w.third.lanes) refl (long_any 8 w.first.lanes w.second.lanes w.third.lanes at.first.long at.second.long at.third.long)

pub returns : goal.returns
returns c =
    let w = c.self.inside in
    let at = c.self.invariant in
    let t = triangle_of w.triangle.now in
    let any = any_below w.first.lanes w.second.lanes w.third.lanes in
    let long = long_any 8 w.first.lanes w.second.lanes w.third.lanes at.first.long at.second.long at.third.long in
    let P : EdgePlace → Type 0 = λ p. (j : ℕ) → j < 8 → IsNearBegin p j → (bit_at (compared at_least (replicate 8 0) any refl long) j == 1) ≡ covers p.triangle (centre (p.x + j) p.y) in
    subst P c.self.view_is (λ j h near.
    bit_at-compared at_least (replicate 8 0) any refl long j h
    ∙ ap (λ n. at_least n (slice_index_or any j 0)) (get_or-replicate 8 j 0 0 h)
    ∙ any_tells 8 w.first.lanes w.second.lanes w.third.lanes at.first.long at.second.long at.third.long j _ _ _ h
    (lane_tells 8 w.first.lanes w.first.across w.first.below (edge t 0) w.left w.top w.x w.y at.first (first_not_flat t at.real) at.left at.top j h near.column near.row)
    (lane_tells 8 w.second.lanes w.second.across w.second.below (edge t 1) w.left w.top w.x w.y at.second (second_not_flat t at.real) at.left at.top j h near.column near.row)
    (lane_tells 8 w.third.lanes w.third.across w.third.below (edge t 2) w.left w.top w.x w.y at.third (third_not_flat t at.real) at.left at.top j h near.column near.row)
    ∙ all_cover t at.real (w.x + j) w.y)
