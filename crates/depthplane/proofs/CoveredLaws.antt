-- What the scaled height of a triangle tells at the pixels that it covers.
use Rattle.std.proofs.Common.{◌≡◌, ◌∙◌, refl, subst, arith, ℕ, ◌-◌, ◌/◌, ◌%◌, ◌<◌, ◌≤◌, IsTrue}
use Rattle.std.specs.Prelude.{ℤ, unsigned_abs}
use Rattle.gfxspec.specs.Raster.{area, centre, covers}
use Rattle.edges.specs.Extremes.{IsWithinExtremes}
use Rattle.edges.proofs.ExtremeLaws.{covered_within}
use Rattle.depthplane.specs.declared.plane.Plane.TheInside.{Inside}
use Rattle.depthplane.specs.declared.scaled.Scaled.{Scaled}
use Rattle.depthplane.specs.Height.{DeepTriangle, height, size_of, without_bias}
use Rattle.depthplane.specs.Mended.{mended_by}
use Rattle.depthplane.specs.Place.{depth_of}
use Rattle.depthplane.specs.Plane.{deep_of}
use Rattle.depthplane.specs.PlaneInside.{IsPlane}
use Rattle.depthplane.specs.Scaled.{IsScaled, excess_at, scaled_at}
use Rattle.depthplane.specs.ScaledInside.{IsScaledHeight}
use Rattle.depthplane.proofs.Biases.{deep_without, plain_depth}
use Rattle.depthplane.proofs.DepthLaws.{depth_sure, depth_far, depth_mended}
use Rattle.depthplane.proofs.ScaledLaws.{at_pixel, excess_bound, excess_few}

-- what a plane keeps
pub of_plane : (p : Inside) → IsPlane p → IsScaledHeight (deep_of p.triangle p.depths p.bias) p.scaled
of_plane p i =
    record {
      linear = i.linear;
      value = i.value;
      divisor = i.divisor;
      start = i.start;
      begins = i.begins;
      scaled = i.scaled;
      depths = i.depths;
    }

module _ (d : DeepTriangle) (s : Scaled) (h : IsScaledHeight d s) (x y : ℕ) (few_x : x ≤ 8191) (few_y : y ≤ 8191) (c : IsTrue (covers d.triangle (centre x y))) where
  abbrev excess : ℕ
  excess = excess_at s.error (x - h.start.left) (y - h.start.top)

  within : IsWithinExtremes d.triangle (centre x y)
  within = covered_within d.triangle (centre x y) c

  few : excess ≤ 16384
  few = excess_few s.error (x - h.start.left) (y - h.start.top) h.scaled.error (omega (arith, few_x)) (omega (arith, few_y))

  small : scaled_at s x y < 18446744073709551616
  small = omega arith

  value : IsScaled (height d (centre x y)) (size_of d) excess (scaled_at s x y)
  value =
      let P : ℤ → Type 0 = λ n. IsScaled n (size_of d) excess (scaled_at s x y) in
      subst P (h.value x y) (at_pixel h.linear (size_of d) h.start s x y h.divisor h.scaled (h.begins.left x y within) (h.begins.top x y within) (omega (arith, few_x)) (omega (arith, few_y)))

  pub covered_sure : IsTrue s.sure → scaled_at s x y / 4294967296 % 4294967296 ≡ depth_of (without_bias d) x y
  covered_sure is =
      let left = h.begins.left x y within in
      let top = h.begins.top x y within in
      let steps = h.begins.steps x y within in
      let bound = excess_bound (unsigned_abs (area d.triangle)) s.error (x - h.start.left) (y - h.start.top) h.start.steps h.scaled.error (omega (arith, left, top, steps)) (h.scaled.sure is) in
      depth_sure d (centre x y) excess (scaled_at s x y) h.depths c h.divisor few small value bound ∙ plain_depth (without_bias d) x y (deep_without d h.depths) refl

  pub covered_far : 16384 ≤ scaled_at s x y % 4294967296 → scaled_at s x y / 4294967296 % 4294967296 ≡ depth_of (without_bias d) x y
  covered_far far =
      let e = few in
      depth_far d (centre x y) excess (scaled_at s x y) h.depths c h.divisor few small value (omega (arith, e, far)) ∙ plain_depth (without_bias d) x y (deep_without d h.depths) refl

  pub covered_mended : mended_by (height d (centre x y)) (size_of d) (scaled_at s x y / 4294967296 % 4294967296) ≡ depth_of (without_bias d) x y
  covered_mended =
      depth_mended d (centre x y) excess (scaled_at s x y) h.depths c h.divisor few small value ∙ plain_depth (without_bias d) x y (deep_without d h.depths) refl
