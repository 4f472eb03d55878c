-- Depths moved by a bias, and depths that no bias moves.
use Rattle.std.proofs.Common.{◌≡◌, ◌∙◌, ap, refl, sym, arith, ℕ, zero, suc, ◌+◌, ◌*◌, ◌/◌, ◌≤◌, ℤ, pos, negsuc, min}
use Rattle.std.specs.Prelude.{◌+ℤ◌, ◌≤ℤ◌}
use Rattle.std.proofs.lemmas.Int.{ints}
use Rattle.std.proofs.lemmas.Nat.{mul-le}
use Rattle.gfxspec.specs.Depth.{biased, clamped_depth, weight, depth_at}
use Rattle.gfxspec.specs.Raster.{centre}
use Rattle.depthplane.specs.Height.{DeepTriangle, AreDepths, without_bias}
use Rattle.depthplane.specs.Place.{depth_of}

pub unbiased : (depth : ℕ) (bias : ℤ) → depth ≤ 16777215 → bias ≡ pos 0 → depth ≡ biased bias depth
unbiased depth bias small e = sym (ap (λ b. biased b depth) e ∙ ap clamped_depth same ∙ least)
  where
    same : pos depth +ℤ pos 0 ≡ pos depth
    same = omega (arith, ints)

    least : min depth 16777215 ≡ depth
    least = omega arith

-- a mean is no greater than what it is a mean of
mean : (a b c x y z n s : ℕ) → x ≤ 16777215 → y ≤ 16777215 → z ≤ 16777215 → n ≡ a * x + b * y + c * z → s ≡ a + b + c → n / s ≤ 16777215
mean a b c x y z n zero p q r is sum = omega arith
mean a b c x y z n (suc s) p q r is sum =
    let first = mul-le a x a 16777215 (omega arith) p in
    let second = mul-le b y b 16777215 (omega arith) q in
    let third = mul-le c z c 16777215 (omega arith) r in
    below (omega arith)
  where
    below : n ≤ 16777215 * suc s → n / suc s ≤ 16777215
    below h = grind arith

pub depth_small : (d : DeepTriangle) (x y : ℕ) → AreDepths d → depth_at d.triangle d.z0 d.z1 d.z2 (centre x y) ≤ 16777215
depth_small d x y deep =
    let p = centre x y in
    mean (weight d.triangle 0 p) (weight d.triangle 1 p) (weight d.triangle 2 p) d.z0 d.z1 d.z2 _ _ deep.z0 deep.z1 deep.z2 refl refl

-- with no bias, the depth is the mean of the corners'
pub plain_depth : (d : DeepTriangle) (x y : ℕ) → AreDepths d → d.bias ≡ pos 0 → depth_at d.triangle d.z0 d.z1 d.z2 (centre x y) ≡ depth_of d x y
plain_depth d x y deep still = unbiased (depth_at d.triangle d.z0 d.z1 d.z2 (centre x y)) d.bias (depth_small d x y deep) still

pub deep_without : (d : DeepTriangle) → AreDepths d → AreDepths (without_bias d)
deep_without d deep = record { z0 = deep.z0; z1 = deep.z1; z2 = deep.z2 }

-- the depth of a triangle with a bias, by that of the same triangle without one
pub moved_depth : (d : DeepTriangle) (bias : ℤ) (x y : ℕ) → AreDepths d → d.bias ≡ pos 0 → biased bias (depth_of d x y) ≡ depth_of (record d { bias = bias }) x y
moved_depth d bias x y deep still = ap (biased bias) (sym (plain_depth d x y deep still))

-- ---- a bias keeps the order of depths

clamped_order : (a b : ℤ) → a ≤ℤ b → clamped_depth a ≤ clamped_depth b
clamped_order (pos m) (pos n) h = below
  where
    below : min m 16777215 ≤ min n 16777215
    below = omega (arith, ints, h)
clamped_order (pos m) (negsuc n) h = absurd (omega (arith, ints, h))
clamped_order (negsuc m) b h = omega arith

pub biased_order : (bias : ℤ) (a b : ℕ) → a ≤ b → biased bias a ≤ biased bias b
biased_order bias a b h = clamped_order (pos a +ℤ bias) (pos b +ℤ bias) (omega (arith, ints, h))
