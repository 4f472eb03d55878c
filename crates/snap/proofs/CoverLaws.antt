-- What it is for a point that a triangle covers it: its three sides, turned so that the inside lies above 0, are weights that sum to the area, and the point is the mean of the corners by them.
use Rattle.std.proofs.Common.{◌≡◌, ◌∙◌, ap, refl, arith, ◌+◌}
use Rattle.std.specs.Prelude.{ℤ, pos, ◌+ℤ◌, ◌-ℤ◌, ◌*ℤ◌, neg_ℤ, Bool, true, false, not, IsTrue, ◌||◌, ◌&&◌, int_lt, unsigned_abs, if◌then◌else◌}
use Rattle.std.specs.Ordering.{int_eq}
use Rattle.std.proofs.lemmas.Int.{ints}
use Rattle.std.proofs.Math.IntN.{*ℤ_comm}
use Rattle.gfxspec.proofs.Integers.{spread, mul_assoc}
use Rattle.gfxspec.proofs.RasterLaws.{side_turns}
use Rattle.gfxspec.specs.Raster.{Point, Triangle, edge, side, side_of, is_empty, area, same_strict_side, edge_holds, covers}
use Rattle.gfxspec.specs.Depth.{weight}
use Rattle.snap.specs.Wide.{turned}

-- where an edge holds, the turned side is its size
held_side : (v c : ℤ) (b : Bool) → IsTrue (same_strict_side v c || (int_eq v (pos 0) && b)) → turned c v ≡ pos (unsigned_abs v)
held_side v c b h = grind (arith, ints)

-- a side by the cross products of its three points, each pair in turn
abbrev crossed : ℤ → ℤ → ℤ → ℤ → ℤ
crossed ax ay bx by = ax *ℤ by -ℤ ay *ℤ bx

side_crossed : (sx sy ex ey px py : ℤ) → (ex -ℤ sx) *ℤ (py -ℤ sy) -ℤ (ey -ℤ sy) *ℤ (px -ℤ sx) ≡ crossed sx sy ex ey +ℤ crossed ex ey px py +ℤ crossed px py sx sy
side_crossed sx sy ex ey px py = simp spread (omega (arith, ints))

crossed_flip : (ax ay bx by : ℤ) → crossed bx by ax ay ≡ neg_ℤ (crossed ax ay bx by)
crossed_flip ax ay bx by = omega (arith, ints)

sum_of_three : (bc cp pb ca ap pc ab bp pa : ℤ) → pc ≡ neg_ℤ cp → bp ≡ neg_ℤ pb → pa ≡ neg_ℤ ap → (bc +ℤ cp +ℤ pb) +ℤ (ca +ℤ ap +ℤ pc) +ℤ (ab +ℤ bp +ℤ pa) ≡ ab +ℤ bc +ℤ ca
sum_of_three bc cp pb ca ap pc ab bp pa e f g = omega (arith, ints)

-- the three sides of a point make up the area
sides_sum : (t : Triangle) (p : Point) → side_of (edge t 0) p +ℤ side_of (edge t 1) p +ℤ side_of (edge t 2) p ≡ area t
sides_sum t p =
    let a = t.first in
    let b = t.second in
    let d = t.third in
    rw (side_crossed b.x b.y d.x d.y p.x p.y, side_crossed d.x d.y a.x a.y p.x p.y, side_crossed a.x a.y b.x b.y p.x p.y, side_crossed a.x a.y b.x b.y d.x d.y)
    (sum_of_three (crossed b.x b.y d.x d.y) (crossed d.x d.y p.x p.y) (crossed p.x p.y b.x b.y) (crossed d.x d.y a.x a.y) (crossed a.x a.y p.x p.y) (crossed p.x p.y d.x d.y) (crossed a.x a.y b.x b.y) (crossed b.x b.y p.x p.y) (crossed p.x p.y a.x a.y)
    (crossed_flip d.x d.y p.x p.y) (crossed_flip p.x p.y b.x b.y) (crossed_flip a.x a.y p.x p.y))

turned_sum : (b : Bool) (u v w : ℤ) → (if b then neg_ℤ u else u) +ℤ (if b then neg_ℤ v else v) +ℤ (if b then neg_ℤ w else w) ≡ (if b then neg_ℤ (u +ℤ v +ℤ w) else u +ℤ v +ℤ w)
turned_sum true u v w = omega (arith, ints)
turned_sum false u v w = refl

own_size : (a : ℤ) → turned a a ≡ pos (unsigned_abs a)
own_size a = grind (arith, ints)

-- what it is that a triangle covers a point
pub record AllHold (t : Triangle) (p : Point) : Type 0 where
  pub first : IsTrue (edge_holds (edge t 0) p)
  pub second : IsTrue (edge_holds (edge t 1) p)
  pub third : IsTrue (edge_holds (edge t 2) p)

pub all_hold : (t : Triangle) (p : Point) → IsTrue (covers t p) → AllHold t p
all_hold t p h =
    let r = by (not (is_empty t)) (edge_holds (edge t 0) p) (edge_holds (edge t 1) p) (edge_holds (edge t 2) p) h in
    record { first = r.0; second = r.1; third = r.2 }
  where
    by : (w x y z : Bool) → IsTrue (w && (x && (y && z))) → IsTrue x × IsTrue y × IsTrue z
    by w x y z h = (grind arith, grind arith, grind arith)

-- each turned side is a weight
pub weight_first : (t : Triangle) (p : Point) → AllHold t p → turned (area t) (side_of (edge t 0) p) ≡ pos (weight t 0 p)
weight_first t p h = rw (side_turns t.first t.second t.third) at (held_side (side_of (edge t 0) p) (side_of (edge t 0) t.first) _ h.first)

pub weight_second : (t : Triangle) (p : Point) → AllHold t p → turned (area t) (side_of (edge t 1) p) ≡ pos (weight t 1 p)
weight_second t p h =
    rw (side_turns t.second t.third t.first ∙ side_turns t.first t.second t.third) at (held_side (side_of (edge t 1) p) (side_of (edge t 1) t.second) _ h.second)

pub weight_third : (t : Triangle) (p : Point) → AllHold t p → turned (area t) (side_of (edge t 2) p) ≡ pos (weight t 2 p)
weight_third t p h = held_side (side_of (edge t 2) p) (area t) _ h.third

-- the weights make up the area
pub weights_sum : (t : Triangle) (p : Point) → AllHold t p → weight t 0 p + weight t 1 p + weight t 2 p ≡ unsigned_abs (area t)
weights_sum t p h =
    let whole = turned_sum (int_lt (area t) (pos 0)) (side_of (edge t 0) p) (side_of (edge t 1) p) (side_of (edge t 2) p) ∙ ap (λ v. turned (area t) v) (sides_sum t p) ∙ own_size (area t) in
    ap unsigned_abs (rw (weight_first t p h, weight_second t p h, weight_third t p h) at whole)

-- a product of three, from its second factor on
rotated : (x y z : ℤ) → (x *ℤ y) *ℤ z ≡ (y *ℤ z) *ℤ x
rotated x y z = mul_assoc x y z ∙ *ℤ_comm x (y *ℤ z)

-- the cross products of three vectors balance them
balance_x : (ax ay bx by dx dy : ℤ) → crossed bx by dx dy *ℤ ax +ℤ crossed dx dy ax ay *ℤ bx +ℤ crossed ax ay bx by *ℤ dx ≡ pos 0
balance_x ax ay bx by dx dy = simp spread (omega (arith, ints, rotated bx dy ax, rotated ax by dx, rotated dx ay bx))

balance_y : (ax ay bx by dx dy : ℤ) → crossed bx by dx dy *ℤ ay +ℤ crossed dx dy ax ay *ℤ by +ℤ crossed ax ay bx by *ℤ dy ≡ pos 0
balance_y ax ay bx by dx dy = simp spread (omega (arith, ints, rotated ay bx dy, rotated by dx ay, rotated dy ax by))

-- a side, as seen from the point
side_from : (sx sy ex ey px py : ℤ) → (ex -ℤ sx) *ℤ (py -ℤ sy) -ℤ (ey -ℤ sy) *ℤ (px -ℤ sx) ≡ crossed (sx -ℤ px) (sy -ℤ py) (ex -ℤ px) (ey -ℤ py)
side_from sx sy ex ey px py = simp spread (omega (arith, ints))

turned_balance : (b : Bool) (u v w x y z : ℤ) → u *ℤ x +ℤ v *ℤ y +ℤ w *ℤ z ≡ pos 0 → (if b then neg_ℤ u else u) *ℤ x +ℤ (if b then neg_ℤ v else v) *ℤ y +ℤ (if b then neg_ℤ w else w) *ℤ z ≡ pos 0
turned_balance true u v w x y z h = simp spread (omega (arith, ints))
turned_balance false u v w x y z h = h

-- a covered point is the mean of the corners by the weights
module _ (t : Triangle) (p : Point) (h : AllHold t p) where
  pub mean_x : pos (weight t 0 p) *ℤ (t.first.x -ℤ p.x) +ℤ pos (weight t 1 p) *ℤ (t.second.x -ℤ p.x) +ℤ pos (weight t 2 p) *ℤ (t.third.x -ℤ p.x) ≡ pos 0
  mean_x =
      let a = t.first in
      let b = t.second in
      let d = t.third in
      let e : side b d p *ℤ (a.x -ℤ p.x) +ℤ side d a p *ℤ (b.x -ℤ p.x) +ℤ side a b p *ℤ (d.x -ℤ p.x) ≡ pos 0 =
      rw (side_from b.x b.y d.x d.y p.x p.y, side_from d.x d.y a.x a.y p.x p.y, side_from a.x a.y b.x b.y p.x p.y) (balance_x (a.x -ℤ p.x) (a.y -ℤ p.y) (b.x -ℤ p.x) (b.y -ℤ p.y) (d.x -ℤ p.x) (d.y -ℤ p.y)) in
      rw (weight_first t p h, weight_second t p h, weight_third t p h) at (turned_balance (int_lt (area t) (pos 0)) (side b d p) (side d a p) (side a b p) (a.x -ℤ p.x) (b.x -ℤ p.x) (d.x -ℤ p.x) e)

  pub mean_y : pos (weight t 0 p) *ℤ (t.first.y -ℤ p.y) +ℤ pos (weight t 1 p) *ℤ (t.second.y -ℤ p.y) +ℤ pos (weight t 2 p) *ℤ (t.third.y -ℤ p.y) ≡ pos 0
  mean_y =
      let a = t.first in
      let b = t.second in
      let d = t.third in
      let e : side b d p *ℤ (a.y -ℤ p.y) +ℤ side d a p *ℤ (b.y -ℤ p.y) +ℤ side a b p *ℤ (d.y -ℤ p.y) ≡ pos 0 =
      rw (side_from b.x b.y d.x d.y p.x p.y, side_from d.x d.y a.x a.y p.x p.y, side_from a.x a.y b.x b.y p.x p.y) (balance_y (a.x -ℤ p.x) (a.y -ℤ p.y) (b.x -ℤ p.x) (b.y -ℤ p.y) (d.x -ℤ p.x) (d.y -ℤ p.y)) in
      rw (weight_first t p h, weight_second t p h, weight_third t p h) at (turned_balance (int_lt (area t) (pos 0)) (side b d p) (side d a p) (side a b p) (a.y -ℤ p.y) (b.y -ℤ p.y) (d.y -ℤ p.y) e)
