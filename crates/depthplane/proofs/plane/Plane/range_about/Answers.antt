use Rattle.std.proofs.Common.{rules, arith, ◌≡◌, ◌∙◌, ap, sym, ℕ, ◌-◌, ◌≤◌, subst, Bool, w32, FitsSigned}
use Rattle.std.specs.Prelude.{ℤ}
use Rattle.std.proofs.lemmas.Int.{to_z-of_z}
use Rattle.gfxspec.specs.Depth.{biased}
use Rattle.gfxspec.specs.Raster.{centre}
use Rattle.depthplane.specs.Division.{IsDivisor}
use Rattle.depthplane.specs.Height.{AreDepths, DeepTriangle, height, size_of}
use Rattle.depthplane.specs.Linear.{value_at}
use Rattle.depthplane.specs.Plane.{deep_of}
use Rattle.depthplane.specs.Range.{near_end, far_end, depth_below, depth_above}
use Rattle.depthplane.specs.Scaled.{IsGentle}
use Rattle.depthplane.proofs.AboutLaws.{IsAbout, about_greatest, about_least, about_pixel}
use Rattle.depthplane.proofs.RangeLaws.{far_within, near_within}
use Rattle.depthplane.proofs.plane.Plane.range_about.Goals as goal

pub returns : goal.returns
returns c = λ x y is covered.
    let now = c.args.self.now in
    let r = c.args.rect in
    let p = c.self.inside in
    let i = c.self.invariant in
    let gentle_is = c.if-not-self.false in
    let value : (x y : ℕ) → value_at i.linear x y ≡ height now (centre x y) = λ x y. i.value x y ∙ ap (λ (d : DeepTriangle). height d (centre x y)) c.self.view_is in
    let deep = subst AreDepths c.self.view_is i.depths in
    let d = deep_of p.triangle p.depths p.bias in
    let size : size_of d ≡ size_of now = ap size_of c.self.view_is in
    let divisor = subst IsDivisor size i.divisor in
    let gentle : IsGentle i.linear (size_of now) = rw (← size) (i.scaled.gentle (search rules)) in
    let near_x = c.ends-near_x.ensures.near ∙ ap (λ (b : Bool). near_end b r.left (r.right - 1)) i.scaled.rises_right in
    let near_y = c.ends-near_y.ensures.near ∙ ap (λ (b : Bool). near_end b r.top (r.bottom - 1)) i.scaled.rises_down in
    let far_x = c.ends-near_x.ensures.far ∙ ap (λ (b : Bool). far_end b r.left (r.right - 1)) i.scaled.rises_right in
    let far_y = c.ends-near_y.ensures.far ∙ ap (λ (b : Bool). far_end b r.top (r.bottom - 1)) i.scaled.rises_down in
    let g : FitsSigned w32 c.bias.result = search rules in
    let N : ℕ → ℕ → ℕ → ℤ → Type 0 = λ u v n d. IsAbout (value_at i.linear u v) d n in
    let a = near_within p.scaled.rises_right r.left r.right c.requires.wide in
    let b = near_within p.scaled.rises_down r.top r.bottom c.requires.high in
    let e = far_within p.scaled.rises_right r.left r.right c.requires.wide in
    let f = far_within p.scaled.rises_down r.top r.bottom c.requires.high in
    let near_x_is = c.ends-near_x.ensures.near in
    let near_y_is = c.ends-near_y.ensures.near in
    let far_x_is = c.ends-near_x.ensures.far in
    let far_y_is = c.ends-near_y.ensures.far in
    let left : i.start.left ≤ 8191 = let few = i.left in omega (arith, few) in
    let top : i.start.top ≤ 8191 = let few = i.top in omega (arith, few) in
    let near_about = about_pixel i.linear (size_of d) i.start p.scaled c.ends-near_x.result.0 c.ends-near_y.result.0 i.divisor i.scaled left top (omega (arith, a, near_x_is, c.requires.right)) (omega (arith, b, near_y_is, c.requires.bottom)) in
    let far_about = about_pixel i.linear (size_of d) i.start p.scaled c.ends-near_x.result.1 c.ends-near_y.result.1 i.divisor i.scaled left top (omega (arith, e, far_x_is, c.requires.right)) (omega (arith, f, far_y_is, c.requires.bottom)) in
    let near_value = subst (N c.ends-near_x.result.0 c.ends-near_y.result.0 c.at.result) size (subst (λ v. N c.ends-near_x.result.0 c.ends-near_y.result.0 v (size_of d)) (sym c.at.ensures) near_about) in
    let far_value = subst (N c.ends-near_x.result.1 c.ends-near_y.result.1 c.at-2.result) size (subst (λ v. N c.ends-near_x.result.1 c.ends-near_y.result.1 v (size_of d)) (sym c.at-2.ensures) far_about) in
    let least_is : c.both_with_bias-between.result.0 ≡ biased now.bias (depth_below c.at.result)
    = (simp to_z-of_z at c.both_with_bias-between.ensures.first) ∙ (λ k. biased (c.bias.ensures k) (c.depth_below-least.ensures k)) in
    let greatest_is : c.both_with_bias-between.result.1 ≡ biased now.bias (depth_above c.at-2.result)
    = (simp to_z-of_z at c.both_with_bias-between.ensures.second) ∙ (λ k. biased (c.bias.ensures k) (c.depth_above-greatest.ensures k)) in
    let low = about_least now i.linear r value divisor gentle c.requires.columns c.requires.rows deep x y is covered _ _ c.at.result near_value near_x near_y in
    let high = about_greatest now i.linear r value divisor gentle c.requires.columns c.requires.rows deep x y is covered _ _ c.at-2.result far_value far_x far_y in
    (omega (arith, least_is, low), omega (arith, greatest_is, high))
