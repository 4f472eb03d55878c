use Rattle.std.proofs.Common.{rules, arith, ◌≡◌, ◌∙◌, ap, ℕ, ◌-◌, subst, Bool, w32, FitsSigned}
use Rattle.std.proofs.lemmas.Int.{to_z-of_z}
use Rattle.gfxspec.specs.Depth.{biased}
use Rattle.gfxspec.specs.Raster.{centre}
use Rattle.depthplane.specs.Height.{AreDepths, DeepTriangle, height}
use Rattle.depthplane.specs.Linear.{value_at}
use Rattle.depthplane.specs.Range.{near_end, far_end}
use Rattle.depthplane.proofs.RangeLaws.{corners_least, corners_greatest, near_small, near_is, far_small, far_is}
use Rattle.depthplane.proofs.plane.Plane.range.Goals as goal

pub both_with_bias-requires-clause-first : goal.both_with_bias-requires-clause-first
both_with_bias-requires-clause-first c =
    let now = c.args.self.now in
    let r = c.args.rect in
    let i = c.self.invariant in
    let value : (x y : ℕ) → value_at i.linear x y ≡ height now (centre x y) = λ x y. i.value x y ∙ ap (λ (d : DeepTriangle). height d (centre x y)) c.self.view_is in
    let deep = subst AreDepths c.self.view_is i.depths in
    let across = c.ends-near_x.ensures.near ∙ ap (λ (b : Bool). near_end b r.left (r.right - 1)) i.scaled.rises_right in
    let down = c.ends-near_y.ensures.near ∙ ap (λ (b : Bool). near_end b r.top (r.bottom - 1)) i.scaled.rises_down in
    near_small now i.linear r c.requires.wide c.requires.high value c.requires.covered deep _ _ c.depth-least.result c.depth-least.ensures across down

pub both_with_bias-requires-clause-second : goal.both_with_bias-requires-clause-second
both_with_bias-requires-clause-second c =
    let now = c.args.self.now in
    let r = c.args.rect in
    let i = c.self.invariant in
    let value : (x y : ℕ) → value_at i.linear x y ≡ height now (centre x y) = λ x y. i.value x y ∙ ap (λ (d : DeepTriangle). height d (centre x y)) c.self.view_is in
    let deep = subst AreDepths c.self.view_is i.depths in
    let across = c.ends-near_x.ensures.far ∙ ap (λ (b : Bool). far_end b r.left (r.right - 1)) i.scaled.rises_right in
    let down = c.ends-near_y.ensures.far ∙ ap (λ (b : Bool). far_end b r.top (r.bottom - 1)) i.scaled.rises_down in
    far_small now i.linear r c.requires.wide c.requires.high value c.requires.covered deep _ _ c.depth-greatest.result c.depth-greatest.ensures across down

pub returns-clause-least : goal.returns-clause-least
returns-clause-least c =
    let now = c.args.self.now in
    let r = c.args.rect in
    let i = c.self.invariant in
    let value : (x y : ℕ) → value_at i.linear x y ≡ height now (centre x y) = λ x y. i.value x y ∙ ap (λ (d : DeepTriangle). height d (centre x y)) c.self.view_is in
    let deep = subst AreDepths c.self.view_is i.depths in
    let across = c.ends-near_x.ensures.near ∙ ap (λ (b : Bool). near_end b r.left (r.right - 1)) i.scaled.rises_right in
    let down = c.ends-near_y.ensures.near ∙ ap (λ (b : Bool). near_end b r.top (r.bottom - 1)) i.scaled.rises_down in
    let g : FitsSigned w32 c.bias.result = search rules in
    (simp to_z-of_z at c.both_with_bias.ensures.first) ∙ ap (λ b. biased b c.depth-least.result) c.bias.ensures ∙ near_is now i.linear r c.requires.wide c.requires.high value c.requires.covered deep _ _ c.depth-least.result c.depth-least.ensures across down

pub returns-clause-greatest : goal.returns-clause-greatest
returns-clause-greatest c =
    let now = c.args.self.now in
    let r = c.args.rect in
    let i = c.self.invariant in
    let value : (x y : ℕ) → value_at i.linear x y ≡ height now (centre x y) = λ x y. i.value x y ∙ ap (λ (d : DeepTriangle). height d (centre x y)) c.self.view_is in
    let deep = subst AreDepths c.self.view_is i.depths in
    let across = c.ends-near_x.ensures.far ∙ ap (λ (b : Bool). far_end b r.left (r.right - 1)) i.scaled.rises_right in
    let down = c.ends-near_y.ensures.far ∙ ap (λ (b : Bool). far_end b r.top (r.bottom - 1)) i.scaled.rises_down in
    let g : FitsSigned w32 c.bias.result = search rules in
    (simp to_z-of_z at c.both_with_bias.ensures.second) ∙ ap (λ b. biased b c.depth-greatest.result) c.bias.ensures ∙ far_is now i.linear r c.requires.wide c.requires.high value c.requires.covered deep _ _ c.depth-greatest.result c.depth-greatest.ensures across down

pub returns-clause-between : goal.returns-clause-between
returns-clause-between c = λ x y is.
    let now = c.args.self.now in
    let r = c.args.rect in
    let i = c.self.invariant in
    let value : (x y : ℕ) → value_at i.linear x y ≡ height now (centre x y) = λ x y. i.value x y ∙ ap (λ (d : DeepTriangle). height d (centre x y)) c.self.view_is in
    let deep = subst AreDepths c.self.view_is i.depths in
    let least = returns-clause-least c in
    let greatest = returns-clause-greatest c in
    let low = corners_least now i.linear r c.requires.wide c.requires.high value c.requires.covered deep x y is in
    let high = corners_greatest now i.linear r c.requires.wide c.requires.high value c.requires.covered deep x y is in
    (omega (arith, least, low), omega (arith, greatest, high))
