-- The depths of a triangle in a rectangle lie between those at two opposite corner pixels.
use Rattle.std.proofs.Common.{◌≡◌, ◌∙◌, ap, sym, subst, refl, arith, ℕ, suc, ◌-◌, ◌<◌, ◌≤◌, Bool, true, false}
use Rattle.std.specs.Prelude.{ℤ, pos, negsuc, ◌+ℤ◌, ◌*ℤ◌, ◌≤ℤ◌, min, max, IsTrue}
use Rattle.std.proofs.lemmas.Int.{ints}
use Rattle.std.proofs.Math.Nat.{mul-le-mul_right}
use Rattle.gfxspec.specs.declared.geometry.PixelRect.{PixelRect}
use Rattle.gfxspec.specs.Depth.{biased}
use Rattle.gfxspec.specs.Raster.{centre, covers}
use Rattle.gfxspec.specs.Tiles.{IsIn}
use Rattle.depthplane.specs.declared.height.Linear.{Linear}
use Rattle.depthplane.specs.Height.{AreDepths, DeepTriangle, height, without_bias}
use Rattle.depthplane.specs.Linear.{rises, value_at}
use Rattle.depthplane.specs.Place.{depth_of}
use Rattle.depthplane.specs.Range.{near_end, far_end, least_corner, greatest_corner}
use Rattle.depthplane.proofs.Biases.{biased_order, deep_without, depth_small, moved_depth, plain_depth}
use Rattle.depthplane.proofs.DepthLaws.{depth_order}

pub low_steps : (s : ℤ) (first x last : ℕ) → first ≤ x → x ≤ last → (pos (near_end (rises s) first last) *ℤ s) ≤ℤ (pos x *ℤ s)
low_steps (pos n) first x last h k = let m = mul-le-mul_right n h in omega (arith, ints, m)
low_steps (negsuc n) first x last h k = let m = mul-le-mul_right (suc n) k in omega (arith, ints, m)

pub high_steps : (s : ℤ) (first x last : ℕ) → first ≤ x → x ≤ last → (pos x *ℤ s) ≤ℤ (pos (far_end (rises s) first last) *ℤ s)
high_steps (pos n) first x last h k = let m = mul-le-mul_right n k in omega (arith, ints, m)
high_steps (negsuc n) first x last h k = let m = mul-le-mul_right (suc n) h in omega (arith, ints, m)

pub sums : (o a b c d : ℤ) → a ≤ℤ b → c ≤ℤ d → (o +ℤ a +ℤ c) ≤ℤ (o +ℤ b +ℤ d)
sums o a b c d h k = omega (arith, ints, h, k)

-- one of four that is no greater than any is their least, and one that is no less than any their greatest
least_is : (s t : Bool) (f : ℕ → ℕ → ℕ) (left right top bottom n : ℕ) → n ≡ f (near_end s left right) (near_end t top bottom) → n ≤ f left top → n ≤ f right top → n ≤ f left bottom → n ≤ f right bottom
    → n ≡ min (min (f left top) (f right top)) (min (f left bottom) (f right bottom))
least_is true true f left right top bottom n is a b c d = omega (arith, is, a, b, c, d)
least_is true false f left right top bottom n is a b c d = omega (arith, is, a, b, c, d)
least_is false true f left right top bottom n is a b c d = omega (arith, is, a, b, c, d)
least_is false false f left right top bottom n is a b c d = omega (arith, is, a, b, c, d)

greatest_is : (s t : Bool) (f : ℕ → ℕ → ℕ) (left right top bottom n : ℕ) → n ≡ f (far_end s left right) (far_end t top bottom) → f left top ≤ n → f right top ≤ n → f left bottom ≤ n → f right bottom ≤ n
    → n ≡ max (max (f left top) (f right top)) (max (f left bottom) (f right bottom))
greatest_is true true f left right top bottom n is a b c d = omega (arith, is, a, b, c, d)
greatest_is true false f left right top bottom n is a b c d = omega (arith, is, a, b, c, d)
greatest_is false true f left right top bottom n is a b c d = omega (arith, is, a, b, c, d)
greatest_is false false f left right top bottom n is a b c d = omega (arith, is, a, b, c, d)

pub near_within : (s : Bool) (first last : ℕ) → first < last → (first ≤ near_end s first (last - 1)) × (near_end s first (last - 1) < last)
near_within true first last h = (omega arith, omega (arith, h))
near_within false first last h = (omega (arith, h), omega (arith, h))

pub far_within : (s : Bool) (first last : ℕ) → first < last → (first ≤ far_end s first (last - 1)) × (far_end s first (last - 1) < last)
far_within true first last h = (omega (arith, h), omega (arith, h))
far_within false first last h = (omega arith, omega (arith, h))

module _ (d : DeepTriangle) (f : Linear) (r : PixelRect) (wide : r.left < r.right) (high : r.top < r.bottom)
    (value : (x y : ℕ) → value_at f x y ≡ height d (centre x y))
    (covered : (x y : ℕ) → IsIn r x y → IsTrue (covers d.triangle (centre x y))) (deep : AreDepths d) where
  -- of two covered pixels the one with the lesser height has no greater depth
  ordered : (x y u v : ℕ) → IsIn r x y → IsIn r u v → value_at f x y ≤ℤ value_at f u v → depth_of d x y ≤ depth_of d u v
  ordered x y u v here there h =
      let P : ℤ → ℤ → Type 0 = λ a b. a ≤ℤ b in
      let heights : height d (centre x y) ≤ℤ height d (centre u v) = subst (λ b. P (height d (centre x y)) b) (value u v) (subst (λ a. P a (value_at f u v)) (value x y) h) in
      biased_order d.bias _ _ (depth_order d (centre x y) (centre u v) (covered x y here) (covered u v there) heights)

  abbrev near_x : ℕ
  near_x = near_end (rises f.step_x) r.left (r.right - 1)

  abbrev near_y : ℕ
  near_y = near_end (rises f.step_y) r.top (r.bottom - 1)

  abbrev far_x : ℕ
  far_x = far_end (rises f.step_x) r.left (r.right - 1)

  abbrev far_y : ℕ
  far_y = far_end (rises f.step_y) r.top (r.bottom - 1)

  near_corner : IsIn r near_x near_y
  near_corner =
      let a = near_within (rises f.step_x) r.left r.right wide in
      let b = near_within (rises f.step_y) r.top r.bottom high in
      record { left = a.0; right = a.1; top = b.0; bottom = b.1 }

  far_corner : IsIn r far_x far_y
  far_corner =
      let a = far_within (rises f.step_x) r.left r.right wide in
      let b = far_within (rises f.step_y) r.top r.bottom high in
      record { left = a.0; right = a.1; top = b.0; bottom = b.1 }

  near_least : (x y : ℕ) → IsIn r x y → depth_of d near_x near_y ≤ depth_of d x y
  near_least x y is =
      let across = low_steps f.step_x r.left x (r.right - 1) is.left (omega (arith, is.right)) in
      let down = low_steps f.step_y r.top y (r.bottom - 1) is.top (omega (arith, is.bottom)) in
      ordered near_x near_y x y near_corner is (sums f.origin _ _ _ _ across down)

  far_greatest : (x y : ℕ) → IsIn r x y → depth_of d x y ≤ depth_of d far_x far_y
  far_greatest x y is =
      let across = high_steps f.step_x r.left x (r.right - 1) is.left (omega (arith, is.right)) in
      let down = high_steps f.step_y r.top y (r.bottom - 1) is.top (omega (arith, is.bottom)) in
      ordered x y far_x far_y is far_corner (sums f.origin _ _ _ _ across down)

  -- the four corners
  first : IsIn r r.left r.top
  first = record { left = omega arith; right = wide; top = omega arith; bottom = high }

  second : IsIn r (r.right - 1) r.top
  second = record { left = omega (arith, wide); right = omega (arith, wide); top = omega arith; bottom = high }

  third : IsIn r r.left (r.bottom - 1)
  third = record { left = omega arith; right = wide; top = omega (arith, high); bottom = omega (arith, high) }

  fourth : IsIn r (r.right - 1) (r.bottom - 1)
  fourth = record { left = omega (arith, wide); right = omega (arith, wide); top = omega (arith, high); bottom = omega (arith, high) }

  least_at_near : depth_of d near_x near_y ≡ least_corner d r
  least_at_near =
      least_is (rises f.step_x) (rises f.step_y) (depth_of d) r.left (r.right - 1) r.top (r.bottom - 1) (depth_of d near_x near_y) refl
      (near_least r.left r.top first) (near_least (r.right - 1) r.top second) (near_least r.left (r.bottom - 1) third) (near_least (r.right - 1) (r.bottom - 1) fourth)

  greatest_at_far : depth_of d far_x far_y ≡ greatest_corner d r
  greatest_at_far =
      greatest_is (rises f.step_x) (rises f.step_y) (depth_of d) r.left (r.right - 1) r.top (r.bottom - 1) (depth_of d far_x far_y) refl
      (far_greatest r.left r.top first) (far_greatest (r.right - 1) r.top second) (far_greatest r.left (r.bottom - 1) third) (far_greatest (r.right - 1) (r.bottom - 1) fourth)

  -- a depth at a corner of the rectangle, moved by the bias
  moved : (u v n : ℕ) → IsIn r u v → (IsTrue (covers d.triangle (centre u v)) → n ≡ depth_of (without_bias d) u v) → biased d.bias n ≡ depth_of d u v
  moved u v n is depth = ap (biased d.bias) (depth (covered u v is)) ∙ moved_depth (without_bias d) d.bias u v (deep_without d deep) refl

  corner_small : (u v n : ℕ) → IsIn r u v → (IsTrue (covers d.triangle (centre u v)) → n ≡ depth_of (without_bias d) u v) → n ≤ 16777215
  corner_small u v n is depth =
      let same = depth (covered u v is) ∙ sym (plain_depth (without_bias d) u v (deep_without d deep) refl) in
      let small = depth_small d u v deep in
      omega (arith, same, small)

  module _ (u v n : ℕ) (depth : IsTrue (covers d.triangle (centre u v)) → n ≡ depth_of (without_bias d) u v) where
    module _ (is_x : u ≡ near_end (rises f.step_x) r.left (r.right - 1)) (is_y : v ≡ near_end (rises f.step_y) r.top (r.bottom - 1)) where
      near_here : IsIn r u v
      near_here = rw (is_x, is_y) near_corner

      pub near_small : n ≤ 16777215
      near_small = corner_small u v n near_here depth

      pub near_is : biased d.bias n ≡ least_corner d r
      near_is = moved u v n near_here depth ∙ (λ k. depth_of d (is_x k) (is_y k)) ∙ least_at_near

    module _ (is_x : u ≡ far_end (rises f.step_x) r.left (r.right - 1)) (is_y : v ≡ far_end (rises f.step_y) r.top (r.bottom - 1)) where
      far_here : IsIn r u v
      far_here = rw (is_x, is_y) far_corner

      pub far_small : n ≤ 16777215
      far_small = corner_small u v n far_here depth

      pub far_is : biased d.bias n ≡ greatest_corner d r
      far_is = moved u v n far_here depth ∙ (λ k. depth_of d (is_x k) (is_y k)) ∙ greatest_at_far

  pub corners_least : (x y : ℕ) → IsIn r x y → least_corner d r ≤ depth_of d x y
  corners_least x y is = let low = near_least x y is in let same = least_at_near in omega (arith, low, same)

  pub corners_greatest : (x y : ℕ) → IsIn r x y → depth_of d x y ≤ greatest_corner d r
  corners_greatest x y is = let high = far_greatest x y is in let same = greatest_at_far in omega (arith, high, same)
