use Rattle.std.proofs.Common.{rules, arith, ◌≡◌, ◌∙◌, ap, sym, subst, ◌≤◌, ◌/◌, ◌%◌, IsTrue, w64, FitsSigned}
use Rattle.std.specs.Int.{w128}
use Rattle.std.proofs.lemmas.Int.{to_z-of_z}
use Rattle.gfxspec.specs.Raster.{centre, covers}
use Rattle.depthplane.specs.Height.{DeepTriangle, height, size_of, without_bias}
use Rattle.depthplane.specs.Mended.{mended_by}
use Rattle.depthplane.specs.Place.{depth_of}
use Rattle.depthplane.specs.Plane.{deep_of}
use Rattle.depthplane.proofs.CoveredLaws.{covered_mended, covered_sure, of_plane}
use Rattle.depthplane.proofs.plane.Plane.exact_depth.Goals as goal

pub returns-then-self : goal.returns-then-self
returns-then-self c =
    let p = c.self.inside in
    let d = deep_of p.triangle p.depths p.bias in
    let x = c.args.x in
    let y = c.args.y in
    let v = c.at.result in
    let small : v ≤ 18446744073709551615 = search rules in
    let sure : IsTrue p.scaled.sure = search rules in
    let whole : v / 4294967296 ≡ v / 4294967296 % 4294967296 = omega (arith, small) in
    let P : DeepTriangle → Type 0 = λ t. IsTrue (covers t.triangle (centre x y)) → v / 4294967296 ≡ depth_of (without_bias t) x y in
    let here : P d = λ t.
    whole ∙ ap (λ n. n / 4294967296 % 4294967296) c.at.ensures ∙ covered_sure d p.scaled (of_plane p c.self.invariant) x y (omega (arith, c.requires.x)) (omega (arith, c.requires.y)) t sure in
    subst P c.self.view_is here

pub returns : goal.returns
returns c =
    let p = c.self.inside in
    let i = c.self.invariant in
    let d = deep_of p.triangle p.depths p.bias in
    let x = c.args.x in
    let y = c.args.y in
    let v = c.at.result in
    let f : FitsSigned w64 c.size.result = search rules in
    let h : FitsSigned w128 c.at-height.result = search rules in
    let mended = simp to_z-of_z at c.mended.ensures in
    let small : v ≤ 18446744073709551615 = search rules in
    let there : c.at-height.result ≡ height d (centre x y) = c.at-height.ensures.value ∙ c.height.ensures.value x y ∙ ap (λ (t : DeepTriangle). height t (centre x y)) (sym c.self.view_is) in
    let whole : v / 4294967296 ≡ v / 4294967296 % 4294967296 = omega (arith, small) in
    let value = whole ∙ ap (λ n. n / 4294967296 % 4294967296) c.at.ensures in
    let P : DeepTriangle → Type 0 = λ t. IsTrue (covers t.triangle (centre x y)) → c.mended.result ≡ depth_of (without_bias t) x y in
    let here : P d = λ t.
    mended ∙ (λ k. mended_by (there k) ((c.size.ensures.value ∙ ap size_of (sym c.self.view_is)) k) (value k)) ∙ covered_mended d p.scaled (of_plane p i) x y (omega (arith, c.requires.x)) (omega (arith, c.requires.y)) t in
    subst P c.self.view_is here
