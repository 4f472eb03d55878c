use Rattle.std.proofs.Common.{rules, ◌≡◌, ◌∙◌, ap, subst, ℕ, ◌<◌, ◌+◌, IsTrue, w32, FitsSigned, slice_index}
use Rattle.std.proofs.lemmas.Int.{to_z-of_z}
use Rattle.gfxspec.specs.Depth.{biased}
use Rattle.gfxspec.specs.Raster.{centre, covers}
use Rattle.depthplane.specs.BiasedInside.{place_of}
use Rattle.depthplane.specs.Place.{depth_of}
use Rattle.depthplane.specs.Places.{Places, IsNearStart}
use Rattle.depthplane.proofs.Biases.{moved_depth}
use Rattle.depthplane.proofs.biased_walks.BiasedWalksWalks.depths.Goals as goal

pub returns : goal.returns
returns c =
    let w = c.self.inside in
    let i = c.self.invariant in
    let f : FitsSigned w32 w.bias = search rules in
    let moved = simp to_z-of_z at c.with_bias8.ensures in
    let P : Places → Type 0 = λ p. (j : ℕ) → j < 8 → IsNearStart p j → IsTrue (covers p.plane.triangle (centre (p.x + j) p.y)) → slice_index c.with_bias8.result j ≡ depth_of p.plane (p.x + j) p.y in
    let here : P (place_of w) = λ j h n t. moved j h ∙ ap (biased w.bias) (c.depths.ensures j h (record { column = n.column; row = n.row }) t) ∙ moved_depth w.walks.plane w.bias (w.walks.x + j) w.walks.y i.depths i.still in
    subst P c.self.view_is here
