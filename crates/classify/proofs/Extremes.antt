-- The greatest and the least value of an edge over a rectangle.
use Rattle.std.proofs.Common.{◌≡◌, refl, arith, ℕ, ◌+◌, ◌<◌, ◌≤◌}
use Rattle.std.specs.Prelude.{ℤ, pos, ◌+ℤ◌, ◌≤ℤ◌, ◌<ℤ◌, IsTrue, IsFalse, Bool, true, false}
use Rattle.std.proofs.lemmas.Int.{ints}
use Rattle.gfxspec.specs.declared.geometry.PixelRect.{PixelRect}
use Rattle.gfxspec.specs.Raster.{Edge, edge_holds, centre}
use Rattle.edges.specs.Value.{edge_value}
use Rattle.classify.specs.Region.{IsGreatest, IsLeast, HoldsEverywhere, HoldsNowhere, HoldsSomewhere, FailsSomewhere}
use Rattle.classify.proofs.Slopes.{at_greatest, at_least}

-- a place between two bounds, at the end that the step picks
pub record IsGreatestPlace (s : ℤ) (low high at : ℕ) : Type 0 where
  pub within : low ≤ at
  pub below : at < high
  pub falling : s <ℤ pos 0 → at ≡ low
  pub rising : pos 0 ≤ℤ s → at + 1 ≡ high

pub record IsLeastPlace (s : ℤ) (low high at : ℕ) : Type 0 where
  pub within : low ≤ at
  pub below : at < high
  pub falling : s <ℤ pos 0 → at + 1 ≡ high
  pub rising : pos 0 ≤ℤ s → at ≡ low

through : (a b c : ℤ) → a ≤ℤ b → b ≤ℤ c → a ≤ℤ c
through a b c h k = omega (arith, ints)

module _ (e : Edge) (r : PixelRect) (v sx sy : ℤ) (x y : ℕ) (right : (u w : ℕ) → edge_value e (u + 1) w ≡ edge_value e u w +ℤ sx) (down : (u w : ℕ) → edge_value e u (w + 1) ≡ edge_value e u w +ℤ sy) (is : v ≡ edge_value e x y) (tells : (u w : ℕ) → (pos 0 ≤ℤ edge_value e u w → IsTrue (edge_holds e (centre u w))) × (IsTrue (edge_holds e (centre u w)) → pos 0 ≤ℤ edge_value e u w)) where
  pub greatest_of : IsGreatestPlace sx r.left r.right x → IsGreatestPlace sy r.top r.bottom y → IsGreatest e r v
  greatest_of h k = record {
    x = x;
    y = y;
    inside = record { left = h.within; right = h.below; top = k.within; bottom = k.below };
    reached = is;
    bound = λ u w b. rw is (through (edge_value e u w) (edge_value e x w) (edge_value e x y)
        (at_greatest (λ u. edge_value e u w) sx (λ u. right u w) r.left r.right x h.falling h.rising u b.left b.right)
        (at_greatest (λ w. edge_value e x w) sy (λ w. down x w) r.top r.bottom y k.falling k.rising w b.top b.bottom));
    tells = tells;
  }

  pub least_of : IsLeastPlace sx r.left r.right x → IsLeastPlace sy r.top r.bottom y → IsLeast e r v
  least_of h k = record {
    x = x;
    y = y;
    inside = record { left = h.within; right = h.below; top = k.within; bottom = k.below };
    reached = is;
    bound = λ u w b. rw is (through (edge_value e x y) (edge_value e x w) (edge_value e u w)
        (at_least (λ w. edge_value e x w) sy (λ w. down x w) r.top r.bottom y k.falling k.rising w b.top b.bottom)
        (at_least (λ u. edge_value e u w) sx (λ u. right u w) r.left r.right x h.falling h.rising u b.left b.right));
    tells = tells;
  }

not_so : (t : Bool) → (IsTrue t → ⊥) → IsFalse t
not_so true h = absurd (h refl)
not_so false h = refl

above_or_below : (v w : ℤ) → v <ℤ pos 0 → w ≤ℤ v → pos 0 ≤ℤ w → ⊥
above_or_below v w h k l = omega (arith, ints)

carried : (v w : ℤ) → pos 0 ≤ℤ v → v ≤ℤ w → pos 0 ≤ℤ w
carried v w h k = omega (arith, ints)

pub nowhere_of : (e : Edge) (r : PixelRect) (v : ℤ) → IsGreatest e r v → v <ℤ pos 0 → HoldsNowhere e r
nowhere_of e r v g h u w i = not_so (edge_holds e (centre u w)) (λ t. above_or_below v (edge_value e u w) h (g.bound u w i) ((g.tells u w).1 t))

pub somewhere_of : (e : Edge) (r : PixelRect) (v : ℤ) → IsGreatest e r v → pos 0 ≤ℤ v → HoldsSomewhere e r
somewhere_of e r v g h = (g.x, g.y, g.inside, (g.tells g.x g.y).0 (rw g.reached at h))

pub everywhere_of : (e : Edge) (r : PixelRect) (v : ℤ) → IsLeast e r v → pos 0 ≤ℤ v → HoldsEverywhere e r
everywhere_of e r v g h u w i = (g.tells u w).0 (carried v (edge_value e u w) h (g.bound u w i))

pub fails_of : (e : Edge) (r : PixelRect) (v : ℤ) → IsLeast e r v → v <ℤ pos 0 → FailsSomewhere e r
fails_of e r v g h = (g.x, g.y, g.inside, not_so (edge_holds e (centre g.x g.y)) (λ t. above_or_below v (edge_value e g.x g.y) h (rw g.reached (omega (arith, ints))) ((g.tells g.x g.y).1 t)))
