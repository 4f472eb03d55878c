use Rattle.std.proofs.Common.{rules, arith, ◌≡◌, ◌∙◌, ap, subst, ℕ, ◌≤◌, ◌/◌, ◌%◌, IsTrue}
use Rattle.gfxspec.specs.Raster.{centre, covers}
use Rattle.depthplane.specs.Height.{DeepTriangle, without_bias}
use Rattle.depthplane.specs.Place.{depth_of}
use Rattle.depthplane.specs.Plane.{deep_of}
use Rattle.depthplane.proofs.CoveredLaws.{covered_far, of_plane}
use Rattle.depthplane.proofs.plane.Plane.depth.Goals as goal

pub returns-then-value-ge-NEAR : goal.returns-then-value-ge-NEAR
returns-then-value-ge-NEAR c =
    let p = c.self.inside in
    let d = deep_of p.triangle p.depths p.bias in
    let x = c.args.x in
    let y = c.args.y in
    let v = c.at-value.result in
    let small : v ≤ 18446744073709551615 = search rules in
    let far : 16384 ≤ v % 4294967296 = let test = c.if-value-ge-NEAR.true in omega (arith, test) in
    let Q : ℕ → Type 0 = λ n. 16384 ≤ n % 4294967296 in
    let whole : v / 4294967296 ≡ v / 4294967296 % 4294967296 = omega (arith, small) in
    let P : DeepTriangle → Type 0 = λ t. IsTrue (covers t.triangle (centre x y)) → v / 4294967296 ≡ depth_of (without_bias t) x y in
    let here : P d = λ t.
    whole ∙ ap (λ n. n / 4294967296 % 4294967296) c.at-value.ensures
    ∙ covered_far d p.scaled (of_plane p c.self.invariant) x y (omega (arith, c.requires.x)) (omega (arith, c.requires.y)) t (subst Q c.at-value.ensures far) in
    subst P c.self.view_is here
