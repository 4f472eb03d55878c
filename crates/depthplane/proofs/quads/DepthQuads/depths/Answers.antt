use Rattle.std.proofs.Common.{arith, ◌≡◌, ◌∙◌, ap, sym, subst, IsTrue, ℕ, ◌<◌, ◌+◌, ◌/◌, ◌%◌, slice_index, ℤ}
use Rattle.gfxspec.specs.Raster.{centre, covers}
use Rattle.depthplane.specs.Place.{depth_of}
use Rattle.depthplane.specs.Places.{Places, IsNearStart}
use Rattle.depthplane.specs.QuadInside.{place_of}
use Rattle.depthplane.proofs.CoveredLaws.{covered_sure}
use Rattle.depthplane.proofs.quads.DepthQuads.depths.Goals as goal

pub returns : goal.returns
returns c =
    let w = c.self.inside in
    let i = c.self.invariant in
    let column = i.column in
    let row = i.row in
    let d = w.plane.now in
    let P : Places → Type 0 = λ p. (j : ℕ) → j < 4 → IsNearStart p j → IsTrue (covers p.plane.triangle (centre (p.x + j) p.y)) → slice_index c.whole_parts4.result j ≡ depth_of p.plane (p.x + j) p.y in
    let here : P (place_of w) = λ j h n t.
    c.whole_parts4.ensures j h
    ∙ ap (λ v. v / 4294967296 % 4294967296) (i.lanes j h)
    ∙ covered_sure d i.scaled i.heights (w.x + j) w.y (omega (arith, column, h)) (omega (arith, row)) t i.sure
    ∙ ap (λ (b : ℤ). depth_of (record { triangle = d.triangle; z0 = d.z0; z1 = d.z1; z2 = d.z2; bias = b }) (w.x + j) w.y) (sym i.still) in
    subst P c.self.view_is here
