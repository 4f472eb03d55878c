use Rattle.std.proofs.Common.{rules, arith, ◌≡◌, ◌∙◌, ap, subst, IsTrue, ℕ, ◌<◌, ◌≤◌, ◌+◌, ◌/◌, ◌%◌, slice_index}
use Rattle.gfxspec.specs.Raster.{centre, covers}
use Rattle.depthplane.specs.Height.{height, size_of}
use Rattle.depthplane.specs.Mended.{mended_by}
use Rattle.depthplane.specs.Place.{depth_of}
use Rattle.depthplane.specs.Places.{Places, IsNearStart}
use Rattle.depthplane.specs.ScaledInside.{place_of}
use Rattle.depthplane.proofs.CoveredLaws.{covered_sure, covered_far, covered_mended}
use Rattle.depthplane.proofs.walks_scaled.ScaledWalksWalks.depths.Goals as goal

pub returns-then-self : goal.returns-then-self
returns-then-self c =
    let w = c.self.inside in
    let i = c.self.invariant in
    let column = i.column in
    let row = i.row in
    let P : Places → Type 0 = λ p. (j : ℕ) → j < 8 → IsNearStart p j → IsTrue (covers p.plane.triangle (centre (p.x + j) p.y)) → slice_index c.whole_parts-depths.result j ≡ depth_of p.plane (p.x + j) p.y in
    let sure : IsTrue i.scaled.sure = subst IsTrue i.sure (search rules) in
    let here : P (place_of w) = λ j h n t.
    c.whole_parts-depths.ensures j h
    ∙ ap (λ v. v / 4294967296 % 4294967296) (i.lanes j h)
    ∙ covered_sure w.plane.now i.scaled i.heights (w.x + j) w.y (omega (arith, column, h)) (omega (arith, row)) t sure in
    subst P c.self.view_is here

pub returns-then-all_far : goal.returns-then-all_far
returns-then-all_far c =
    let w = c.self.inside in
    let i = c.self.invariant in
    let column = i.column in
    let row = i.row in
    let P : Places → Type 0 = λ p. (j : ℕ) → j < 8 → IsNearStart p j → IsTrue (covers p.plane.triangle (centre (p.x + j) p.y)) → slice_index c.whole_parts-depths.result j ≡ depth_of p.plane (p.x + j) p.y in
    let Q : ℕ → Type 0 = λ v. 16384 ≤ v % 4294967296 in
    let here : P (place_of w) = λ j h n t.
    c.whole_parts-depths.ensures j h
    ∙ ap (λ v. v / 4294967296 % 4294967296) (i.lanes j h)
    ∙ covered_far w.plane.now i.scaled i.heights (w.x + j) w.y (omega (arith, column, h)) (omega (arith, row)) t (subst Q (i.lanes j h) (c.all_far.ensures c.if-all_far.true j h)) in
    subst P c.self.view_is here

pub returns : goal.returns
returns c =
    let w = c.self.inside in
    let i = c.self.invariant in
    let column = i.column in
    let row = i.row in
    let P : Places → Type 0 = λ p. (j : ℕ) → j < 8 → IsNearStart p j → IsTrue (covers p.plane.triangle (centre (p.x + j) p.y)) → slice_index c.mend.result j ≡ depth_of p.plane (p.x + j) p.y in
    let here : P (place_of w) = λ j h n t.
    c.mend.ensures j h
    ∙ ap (mended_by (height w.plane.now (centre (w.x + j) w.y)) (size_of w.plane.now)) (c.whole_parts-near.ensures j h ∙ ap (λ v. v / 4294967296 % 4294967296) (i.lanes j h))
    ∙ covered_mended w.plane.now i.scaled i.heights (w.x + j) w.y (omega (arith, column, h)) (omega (arith, row)) t in
    subst P c.self.view_is here
